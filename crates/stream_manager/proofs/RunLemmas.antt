-- What follows from every call, follows from every run.
use Rattle.std.proofs.Common.{◌≡◌, ◌≤◌, ◌<◌, ◌+◌, ◌-◌, ◌⊎◌, inl, inr, ◌∙◌, ℕ, zero, suc, Bool, true, false, Option, Some, Result, Ok, Err, List, [], ◌∷◌, ◌++◌, drop, length, map, sym, ap, refl, arith, subst, append-nil, append_assoc, length-drop}
use Rattle.std.specs.Prelude.{slice_set, unwrap_or}
use Rattle.std.specs.List.{slice_get}
use Rattle.std.specs.Option.{option_and_then}
use Rattle.std.proofs.lemmas.List.{append_cancel_left, drop-set-lt, length-map, length-set, map-set, set-append_left}
use Rattle.stamp_values.specs.declared.place.Place.{Place}
use Rattle.extent_node.specs.Copies.{Block}
use Rattle.extent_node.specs.Faults.{held}
use Rattle.extent_seal.specs.Extents.{Open, no_blocks}
use Rattle.stream_manager.specs.Extents.{closed_blocks, extents}
use Rattle.stream_manager.specs.GivenUp.{GivesUp, GivesUpFront}
use Rattle.stream_manager.specs.Outcomes.{IsAppend, IsSettled, IsSealed}
use Rattle.stream_manager.specs.Places.{block_at, blocks_of, is_kept, Follows, GoesOn}
use Rattle.stream_manager.specs.Runs.{IsStep, IsCallFrom, IsRunFrom, end_of}
use Rattle.stream_manager.specs.Streams.{Streamed, laid}
use Rattle.stream_manager.specs.declared.faults.AppendFault.{AppendFault}
use Rattle.stream_manager.specs.declared.faults.AppendFault.TheVariants as fault
use Rattle.stream_manager.specs.declared.faults.Settled.{Settled}
use Rattle.stream_manager.specs.declared.faults.Settled.TheVariants as settled
use Rattle.stream_manager.specs.declared.faults.StoredFault.{StoredFault}
use Rattle.stream_manager.proofs.GivenUpLemmas.{drop_emptied, length_emptied}
use Rattle.stream_manager.proofs.PlaceLemmas.{onward, place_within, same}
use Rattle.stream_manager.proofs.ReadLemmas.{count_of_extents}

-- nothing was added
pub stays_on : (es : List (List Block)) → GoesOn es es
stays_on es = ([], same es)

unchanged : (es fs : List (List Block)) → fs ≡ es → GoesOn es fs
unchanged es fs e = ([], subst (λ x. Follows es [] x) (sym e) (same es))

-- an append, a settle and a seal, whatever they answer
pub append_goes_on : (r : Result Place AppendFault) (es fs : List (List Block)) (old new : Open) (block : Block) → IsAppend r es old block fs new → GoesOn es fs
append_goes_on (Ok p) es fs old new block a = (held (is_kept es old fs) old.tried ++ block ∷ [], a.0)
append_goes_on (Err fault.Doubt) es fs old new block a = (held (is_kept es old fs) old.tried, a.0)
append_goes_on (Err fault.Busy) es fs old new block a = elim a [ inl x ↦ (held (is_kept es old fs) old.tried, x.0) | inr x ↦ unchanged es fs x.0 ]
append_goes_on (Err fault.NoMemory) es fs old new block a = unchanged es fs a.0
append_goes_on (Err fault.TooLarge) es fs old new block a = unchanged es fs a.0

pub settle_goes_on : (r : Result Settled StoredFault) (es fs : List (List Block)) (old new : Open) → IsSettled r es old fs new → GoesOn es fs
settle_goes_on (Ok settled.Clean) es fs old new a = unchanged es fs a.1
settle_goes_on (Ok (settled.Kept p)) es fs old new a = (a.0.0 ∷ [], a.0.2)
settle_goes_on (Ok settled.Dropped) es fs old new a = ([], a.1)
settle_goes_on (Err e) es fs old new a = unchanged es fs a.1

pub seal_goes_on : (r : Result (Unit {0}) StoredFault) (es fs : List (List Block)) (old new : Open) → IsSealed r es old fs new → GoesOn es fs
seal_goes_on (Ok u) es fs old new a = (held (is_kept es old fs) old.tried, a.0)
seal_goes_on (Err e) es fs old new a = unchanged es fs a.0

step_goes_on : (s t : Streamed) → IsStep s t → GoesOn (laid s) (laid t)
step_goes_on s t h = elim h [
  | inl a ↦ append_goes_on a.0 (laid s) (laid t) s.last t.last a.1.0 a.1.1
  | inr h2 ↦ elim h2 [
    | inl a ↦ settle_goes_on a.0 (laid s) (laid t) s.last t.last a.1
    | inr h3 ↦ elim h3 [
      | inl a ↦ seal_goes_on a.0 (laid s) (laid t) s.last t.last a.1
      | inr k ↦ unchanged (laid s) (laid t) k.blocks
    ]
  ]
]

-- ---- what follows, without the first extents

first_same : (x y : List Block) (es fs : List (List Block)) → slice_get (y ∷ fs) 0 ≡ slice_get (x ∷ es) 0 → y ≡ x
first_same x y es fs e = ap (λ (o : Option (List Block)). unwrap_or o x) e

follows_tail : (x y : List Block) (es fs : List (List Block)) (a : List Block) → 0 < length es → Follows (x ∷ es) a (y ∷ fs) → Follows es a fs
follows_tail x y es fs a some f =
    let own : y ≡ x = first_same x y es fs (f.sealed.closed 0 (omega (arith, some))) in
    record {
      order = append_cancel_left x (blocks_of fs) (blocks_of es ++ a)
          (ap (λ l. l ++ blocks_of fs) (sym own) ∙ f.order ∙ append_assoc x (blocks_of es) a);
      kept = λ p b h. f.kept (record { extent = suc p.extent; index = p.index }) b h;
      sealed = record { closed = λ e l. f.sealed.closed (suc e) (omega (arith, l)); longer = (let l = f.sealed.longer in omega (arith, l)) };
    }

-- what follows the extents follows those from a number on
pub follows_dropped : (k : ℕ) (es fs : List (List Block)) (a : List Block) → k < length es → Follows es a fs → Follows (drop k es) a (drop k fs)
follows_dropped zero es fs a l f = f
follows_dropped (suc k) [] fs a l f = absurd (omega (arith, l))
follows_dropped (suc k) (x ∷ es) [] a l f = absurd (let m = f.sealed.longer in omega (arith, m))
follows_dropped (suc k) (x ∷ es) (y ∷ fs) a l f = follows_dropped k es fs a (omega (arith, l)) (follows_tail x y es fs a (omega (arith, l)) f)

-- ---- runs that give up extents before a number

-- from this number on some blocks were added
abbrev LeadsFrom : ℕ → List (List Block) → List (List Block) → Type 0
LeadsFrom k es fs = (added : List Block) × Follows (drop k es) added (drop k fs)

-- the extents from this number on, after a give-up of extents before it
unseen : (k : ℕ) (es fs : List (List Block)) → k < length es → length fs ≡ length es → drop k fs ≡ drop k es → LeadsFrom k es fs × (k < length fs)
unseen k es fs l n e = (([], subst (λ x. Follows (drop k es) [] x) (sym e) (same (drop k es))), omega (arith, l, n))

laid_given : (e : ℕ) (s t : Streamed) → GivesUp e s t → laid t ≡ slice_set (laid s) e []
laid_given e s t g =
    (λ i. extents (g.sealed i) (g.last i))
    ∙ ap (λ l. l ++ s.last.blocks ∷ []) (map-set closed_blocks s.sealed e no_blocks)
    ∙ sym (set-append_left (map closed_blocks s.sealed) (s.last.blocks ∷ []) e [] (rw (length-map s.sealed closed_blocks) g.there))

one_unseen : (e k : ℕ) (s t : Streamed) → e < k → k < length (laid s) → GivesUp e s t → LeadsFrom k (laid s) (laid t) × (k < length (laid t))
one_unseen e k s t b l g =
    let is = laid_given e s t g in
    unseen k (laid s) (laid t) l (ap length is ∙ length-set (laid s) e []) (ap (drop k) is ∙ drop-set-lt k (laid s) e [] b)

front_unseen : (n k : ℕ) (s t : Streamed) → n ≤ k → k < length (laid s) → GivesUpFront n s t → LeadsFrom k (laid s) (laid t) × (k < length (laid t))
front_unseen n k s t b l g =
    unseen k (laid s) (laid t) l (ap length g.blocks ∙ length_emptied n (laid s)) (ap (drop k) g.blocks ∙ drop_emptied n k (laid s) b)

step_from : (k : ℕ) (s t : Streamed) → k < length (laid s) → IsStep s t → LeadsFrom k (laid s) (laid t) × (k < length (laid t))
step_from k s t l step =
    let r = step_goes_on s t step in
    ((r.0, follows_dropped k (laid s) (laid t) r.0 l r.1), (let m = r.1.sealed.longer in omega (arith, m, l)))

call_from : (k : ℕ) (s t : Streamed) → k < length (laid s) → IsCallFrom k s t → LeadsFrom k (laid s) (laid t) × (k < length (laid t))
call_from k s t l h = elim h [
  | inl step ↦ step_from k s t l step
  | inr gives ↦ elim gives [
    | inl g ↦ one_unseen g.0 k s t g.1.0 l g.1.1
    | inr g ↦ front_unseen g.0 k s t g.1.0 l g.1.1
  ]
]

-- From a number on, the extents of the end of a run follow those of its beginning, if no extent from this number on is given up
pub run_from : (k : ℕ) (s : Streamed) (ts : List Streamed) → k < length (laid s) → IsRunFrom k s ts → LeadsFrom k (laid s) (laid (end_of s ts))
run_from k s [] l h = ([], same (drop k (laid s)))
run_from k s (t ∷ ts) l h =
    let a = call_from k s t l h.0 in
    let b = run_from k t ts a.1 h.1 in
    (a.0.0 ++ b.0, onward (drop k (laid s)) (drop k (laid t)) (drop k (laid (end_of t ts))) a.0.0 b.0 a.0.1 b.1)

get_dropped : (k : ℕ) (es : List (List Block)) (e f : ℕ) → f ≡ e + k → slice_get (drop k es) e ≡ slice_get es f
get_dropped zero es e f is = ap (slice_get es) (omega (arith, is))
get_dropped (suc k) [] e f is = refl
get_dropped (suc k) (x ∷ es) e zero is = absurd (omega (arith, is))
get_dropped (suc k) (x ∷ es) e (suc f) is = get_dropped k es e f (omega (arith, is))

-- a block is read for good, as long as its extent is not given up
pub read_from : (k : ℕ) (p : Place) (b : Block) (s : Streamed) (ts : List Streamed) → k ≤ p.extent → IsRunFrom k s ts
    → block_at (laid s) p ≡ Some b → block_at (laid (end_of s ts)) p ≡ Some b
read_from k p b s ts l run h =
    let there = place_within (laid s) p b h in
    let is : p.extent ≡ p.extent - k + k = omega (arith, l) in
    let r = run_from k s ts (omega (arith, l, there)) run in
    ap (option_and_then (λ blocks. slice_get blocks p.index)) (sym (get_dropped k (laid (end_of s ts)) (p.extent - k) p.extent is))
    ∙ r.1.kept (record { extent = p.extent - k; index = p.index }) b
    (ap (option_and_then (λ blocks. slice_get blocks p.index)) (get_dropped k (laid s) (p.extent - k) p.extent is) ∙ h)

-- each sealed extent that is not given up has the blocks that it had
pub sealed_from : (k e : ℕ) (s : Streamed) (ts : List Streamed) → k ≤ e → e < length s.sealed → IsRunFrom k s ts
    → slice_get (laid (end_of s ts)) e ≡ slice_get (laid s) e
sealed_from k e s ts l there run =
    let c = count_of_extents s.sealed s.last in
    let is : e ≡ e - k + k = omega (arith, l) in
    let r = run_from k s ts (omega (arith, c, l, there)) run in
    sym (get_dropped k (laid (end_of s ts)) (e - k) e is)
    ∙ r.1.sealed.closed (e - k) (let n = length-drop k (laid s) in omega (arith, n, c, l, there))
    ∙ get_dropped k (laid s) (e - k) e is

-- the blocks of the extents from a number on stay in their order
pub order_from : (k : ℕ) (s : Streamed) (ts : List Streamed) → k ≤ length s.sealed → IsRunFrom k s ts
    → (added : List Block) × (blocks_of (drop k (laid (end_of s ts))) ≡ blocks_of (drop k (laid s)) ++ added)
order_from k s ts l run =
    let c = count_of_extents s.sealed s.last in
    let r = run_from k s ts (omega (arith, c, l)) run in
    (r.0, r.1.order)

-- how a doubt ends, or that it stays
abbrev EndsWhole : List (List Block) → List (List Block) → Open → Block → Type 0
EndsWhole es fs new d = ((fs ≡ es) × (new.tried ≡ Some d))
    ⊎ ((kept : Bool) × ((after : List Block) × (blocks_of fs ≡ blocks_of es ++ (held kept (Some d) ++ after))))

stays : (es fs : List (List Block)) (old new : Open) (d : Block) → old.tried ≡ Some d → fs ≡ es → new ≡ old → EndsWhole es fs new d
stays es fs old new d t e n = inl (e, ap (λ o. o.tried) n ∙ t)

ends : (es fs : List (List Block)) (old : Open) (d : Block) (new : Open) (kept : Bool) (after : List Block) → old.tried ≡ Some d
    → blocks_of fs ≡ blocks_of es ++ (held kept old.tried ++ after) → EndsWhole es fs new d
ends es fs old d new kept after t o = inr (kept, (after, rw t at o))

ends_alone : (es fs : List (List Block)) (old : Open) (d : Block) (new : Open) (kept : Bool) → old.tried ≡ Some d
    → blocks_of fs ≡ blocks_of es ++ held kept old.tried → EndsWhole es fs new d
ends_alone es fs old d new kept t o = ends es fs old d new kept [] t (o ∙ ap (λ l. blocks_of es ++ l) (sym (append-nil (held kept old.tried))))

doubt_append : (r : Result Place AppendFault) (es fs : List (List Block)) (old new : Open) (block d : Block) → old.tried ≡ Some d
    → IsAppend r es old block fs new → EndsWhole es fs new d
doubt_append (Ok p) es fs old new block d t a = ends es fs old d new (is_kept es old fs) (block ∷ []) t a.0.order
doubt_append (Err fault.Doubt) es fs old new block d t a = ends_alone es fs old d new (is_kept es old fs) t a.0.order
doubt_append (Err fault.Busy) es fs old new block d t a = elim a [ inl x ↦ ends_alone es fs old d new (is_kept es old fs) t x.0.order | inr x ↦ stays es fs old new d t x.0 x.1 ]
doubt_append (Err fault.NoMemory) es fs old new block d t a = stays es fs old new d t a.0 a.1
doubt_append (Err fault.TooLarge) es fs old new block d t a = stays es fs old new d t a.0 a.1

doubt_settle : (r : Result Settled StoredFault) (es fs : List (List Block)) (old new : Open) (d : Block) → old.tried ≡ Some d
    → IsSettled r es old fs new → EndsWhole es fs new d
doubt_settle (Ok settled.Clean) es fs old new d t a = stays es fs old new d t a.1 a.2
doubt_settle (Ok (settled.Kept p)) es fs old new d t a =
    ends_alone es fs old d new true t (a.0.2.order ∙ ap (λ o. blocks_of es ++ held true o) (sym a.0.1))
doubt_settle (Ok settled.Dropped) es fs old new d t a = ends_alone es fs old d new false t a.1.order
doubt_settle (Err e) es fs old new d t a = stays es fs old new d t a.1 a.2

doubt_seal : (r : Result (Unit {0}) StoredFault) (es fs : List (List Block)) (old new : Open) (d : Block) → old.tried ≡ Some d
    → IsSealed r es old fs new → EndsWhole es fs new d
doubt_seal (Ok u) es fs old new d t a = ends_alone es fs old d new (is_kept es old fs) t a.0.order
doubt_seal (Err e) es fs old new d t a = stays es fs old new d t a.0 a.1

pub doubt_ends : (s t : Streamed) (d : Block) → s.last.tried ≡ Some d → IsStep s t → EndsWhole (laid s) (laid t) t.last d
doubt_ends s t d e h = elim h [
  | inl a ↦ doubt_append a.0 (laid s) (laid t) s.last t.last a.1.0 d e a.1.1
  | inr h2 ↦ elim h2 [
    | inl a ↦ doubt_settle a.0 (laid s) (laid t) s.last t.last d e a.1
    | inr h3 ↦ elim h3 [
      | inl a ↦ doubt_seal a.0 (laid s) (laid t) s.last t.last d e a.1
      | inr k ↦ stays (laid s) (laid t) s.last t.last d e k.blocks k.last
    ]
  ]
]

-- a give-up leaves the last extent, so its doubt stays
pub doubt_left : (old new : Open) (d : Block) → new ≡ old → old.tried ≡ Some d → new.tried ≡ Some d
doubt_left old new d is t = ap (λ o. o.tried) is ∙ t
