-- A reply that is taken in pieces.
use Rattle.std.proofs.Common.{◌≡◌, ◌≢◌, ◌⊎◌, inl, inr, ℕ, ◌+◌, ◌-◌, ◌<◌, ◌≤◌, min, List, [], ◌++◌, length, take, drop, get_or, Option, Result, Ok, Err, OnErr, refl, sym, ap, ◌∙◌, subst, arith, append_assoc, length-append, length-drop, length-take-le}
use Rattle.std.proofs.Math.Seq.{drop-append-add, drop-append_seam}
use Rattle.std.proofs.lemmas.Bool.{cases_order}
use Rattle.std.proofs.lemmas.List.{append_cancel_left, drop-append-le, drop-drop, drop_all, take_all, take-append-drop}
use Rattle.std.proofs.KnownBytes.{Appends-nil, Appends-trans}
use Rattle.std.specs.Io.KnownBytes.{Appends}
use Rattle.std.specs.List.{concat}
use Rattle.stamp_values.proofs.Joined.{concat_split, concat_take_next}
use Rattle.http_front.specs.declared.counted.Output.TheVariants as outputs
use Rattle.http_front.specs.Connections.{WriterState, Sends, SendsFront}
use Rattle.http_front.proofs.ConnectionLemmas.{Sends-all, Sends-front, Sends-more, Sends-of, Sends-then}

-- a fact that holds holds of a fault
pub on_err : {T E : Type 0} (result : Result T E) (P : Type 0) → P → OnErr result P
on_err (Ok x) P p = tt
on_err (Err e) P p = p

-- ---- lists

-- the first list and what follows it, without some bytes at the front
drop_into_by : (skip : ℕ) (first more : List ℕ) → (skip ≡ length first) ⊎ ((skip < length first) ⊎ (length first < skip))
    → drop skip (first ++ more) ≡ drop (min skip (length first)) first ++ drop (skip - min skip (length first)) more
drop_into_by skip first more (inl same) =
    drop-append-le skip first more (omega arith) ∙ ap (λ n. drop n first ++ more) {y = min skip (length first)} (omega arith)
    ∙ ap (λ n. drop (min skip (length first)) first ++ drop n more) {x = 0} {y = skip - min skip (length first)} (omega arith)
drop_into_by skip first more (inr (inl less)) =
    drop-append-le skip first more (omega arith) ∙ ap (λ n. drop n first ++ more) {y = min skip (length first)} (omega arith)
    ∙ ap (λ n. drop (min skip (length first)) first ++ drop n more) {x = 0} {y = skip - min skip (length first)} (omega arith)
drop_into_by skip first more (inr (inr past)) =
    ap (λ n. drop n (first ++ more)) {y = length first + (skip - length first)} (omega arith)
    ∙ drop-append-add first more (skip - length first)
    ∙ ap (λ n. drop n more) {y = skip - min skip (length first)} (omega arith)
    ∙ ap (λ l. l ++ drop (skip - min skip (length first)) more) (sym (drop_all (min skip (length first)) first (omega arith)))

drop_into : (skip start : ℕ) (first more : List ℕ) → start ≡ min skip (length first) → drop skip (first ++ more) ≡ drop start first ++ drop (skip - start) more
drop_into skip start first more is =
    drop_into_by skip first more (cases_order skip (length first)) ∙ sym (ap (λ n. drop n first ++ drop (skip - n) more) is)

-- the shares from the share at i on
next_share : (shares : List (List ℕ)) (i : ℕ) (share bytes : List ℕ) → i < length shares → share ≡ get_or shares i share → bytes ≡ share
    → concat (drop i shares) ≡ bytes ++ concat (drop (i + 1) shares)
next_share shares i share bytes less is same =
    append_cancel_left (concat (take i shares)) (concat (drop i shares)) (bytes ++ concat (drop (i + 1) shares))
    (sym (concat_split shares i) ∙ concat_split shares (i + 1)
    ∙ ap (λ l. l ++ concat (drop (i + 1) shares)) (concat_take_next shares i share bytes less is same)
    ∙ append_assoc (concat (take i shares)) bytes (concat (drop (i + 1) shares)))

-- ---- the shares of a body

-- The writer took so many bytes more of what was left to write, and this is left now.
pub record Taken (from to : Option (List ℕ)) (pending left : List ℕ) (count : ℕ) : Type 0 where
  pub front : List ℕ
  pub parts : pending ≡ front ++ left
  pub held : Appends from to front
  pub counted : length front ≡ count

pub taken_none : (held : Option (List ℕ)) (pending left : List ℕ) → pending ≡ left → Taken held held pending left 0
taken_none held pending left is = record { front = []; parts = is; held = Appends-nil held; counted = refl }

pub taken_more : (a b c : Option (List ℕ)) (pending left first more : List ℕ) (count n : ℕ) → Taken a b pending left count → left ≡ first ++ more → Appends b c first → length first ≡ n
    → Taken a c pending more (count + n)
taken_more a b c pending left first more count n t is now size =
    let long = length-append t.front first in
    let before = t.counted in record {
      front = t.front ++ first;
      parts = t.parts ∙ ap (λ l. t.front ++ l) is ∙ sym (append_assoc t.front first more);
      held = Appends-trans a b c t.front first t.held now;
      counted = omega arith;
    }

-- The loop has come to the share at i. What is left of it, from `start` on, was given to the writer, which took n bytes.
module _ (a b c : WriterState) (pending : List ℕ) (shares : List (List ℕ)) (i skip start count n : ℕ) (share bytes part : List ℕ)
    (t : Taken a.held b.held pending (drop skip (concat (drop i shares))) count) (less : i < length shares) (is : share ≡ get_or shares i share) (same : bytes ≡ share)
    (at : start ≡ min skip (length bytes)) (cut : part ≡ drop start bytes) where
  left_is : drop skip (concat (drop i shares)) ≡ part ++ drop (skip - start) (concat (drop (i + 1) shares))
  left_is =
      ap (drop skip) (next_share shares i share bytes less is same) ∙ drop_into skip start bytes (concat (drop (i + 1) shares)) at
      ∙ ap (λ l. l ++ drop (skip - start) (concat (drop (i + 1) shares))) (sym cut)

  -- it was taken whole
  pub share_taken : n ≤ length part → length part ≤ n → c.output ≢ outputs.Failed → Sends b c (take n part)
      → Taken a.held c.held pending (drop (skip - start) (concat (drop (i + 1) shares))) (count + n)
  share_taken most all works sent =
      taken_more a.held b.held c.held pending _ part _ count n t left_is (subst (Appends b.held c.held) (take_all n part all) (Sends-all b c (take n part) works sent)) (omega arith)

  -- the writer takes no more now
  pub share_waits : n ≤ length part → c.output ≢ outputs.Failed → Sends b c (take n part)
      → Taken a.held c.held pending (drop n part ++ drop (skip - start) (concat (drop (i + 1) shares))) (count + n)
  share_waits most works sent =
      taken_more a.held b.held c.held pending _ (take n part) _ count n t
      (left_is ∙ ap (λ l. l ++ drop (skip - start) (concat (drop (i + 1) shares))) (sym (take-append-drop n part)) ∙ append_assoc (take n part) (drop n part) _)
      (Sends-all b c (take n part) works sent) (length-take-le n part most)

  -- a write failed
  pub share_cut : c.output ≡ outputs.Failed → Sends b c part → Sends a c pending
  share_cut failed sent =
      let more = drop (skip - start) (concat (drop (i + 1) shares)) in
      subst (Sends a c) (append_assoc t.front part more ∙ ap (λ l. t.front ++ l) (sym left_is) ∙ sym t.parts)
      (Sends-front a c (t.front ++ part) more failed (Sends-then a b c t.front part t.held sent))

-- so many bytes of the body were taken in all
module _ (a b : WriterState) (body left : List ℕ) (taken count n : ℕ) (t : Taken a.held b.held (drop taken body) left count) (all : n ≡ taken + count) where
  taken_left : drop n body ≡ left
  taken_left =
      ap (λ k. drop k body) all ∙ sym (drop-drop count taken body) ∙ ap (drop count) t.parts
      ∙ ap (λ k. drop k (t.front ++ left)) (sym t.counted) ∙ drop-append_seam t.front left

  pub body_sent : SendsFront a b (drop taken body) (drop n body)
  body_sent = record {
    front = t.front;
    parts = t.parts ∙ ap (λ l. t.front ++ l) (sym taken_left);
    sent = Sends-of a b t.front t.held;
  }

  pub body_most : taken ≤ length body → n ≤ length body
  body_most within =
      let size = length-drop taken body in
      let parts = ap length t.parts in
      let long = length-append t.front left in
      let counted = t.counted in
      omega arith

-- ---- the head of a reply, and then its body

-- a slice up to the end
pub slice_to_end : (n : ℕ) (xs : List ℕ) → take (length xs - n) (drop n xs) ≡ drop n xs
slice_to_end n xs = let size = length-drop n xs in take_all (length xs - n) (drop n xs) (omega arith)

-- bytes of a list are left
pub some_left : (head body : List ℕ) (n m : ℕ) → (n < length head) ⊎ (m < length body) → drop n head ++ drop m body ≢ []
some_left head body n m (inl less) e =
    let size = ap length e in
    let long = length-append (drop n head) (drop m body) in
    let left = length-drop n head in
    absurd (omega arith)
some_left head body n m (inr less) e =
    let size = ap length e in
    let long = length-append (drop n head) (drop m body) in
    let left = length-drop m body in
    absurd (omega arith)

-- The head was taken whole.
module _ (a b : WriterState) (head body rest : List ℕ) (start n : ℕ) (is : rest ≡ drop start head) (all : length rest ≤ n)
    (sent : Sends a b (take n rest)) (works : b.output ≢ outputs.Failed) where
  whole : Sends a b (drop start head)
  whole = subst (Sends a b) (take_all n rest all ∙ is) sent

  none : drop (start + n) head ≡ []
  none = sym (drop-drop n start head) ∙ ap (drop n) (sym is) ∙ drop_all n rest all

  pub head_then : (c : WriterState) (body' : List ℕ) → SendsFront b c body body' → SendsFront a c (drop start head ++ body) (drop (start + n) head ++ body')
  head_then c body' s = record {
    front = drop start head ++ s.front;
    parts =
        ap (λ l. drop start head ++ l) s.parts ∙ sym (append_assoc (drop start head) s.front body')
        ∙ ap (λ l. (drop start head ++ s.front) ++ (l ++ body')) (sym none);
    sent = Sends-more a b c (drop start head) s.front whole works s.sent;
  }

  pub head_cut : (c : WriterState) → Sends b c body → Sends a c (drop start head ++ body)
  head_cut c cut = Sends-more a b c (drop start head) body whole works cut
