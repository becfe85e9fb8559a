-- Changes that fit in turn.
use Rattle.std.proofs.Common.{◌≡◌, ◌∙◌, Bool, true, false, cond, List, [], ◌∷◌, ◌++◌, map, filter, ap, sym, refl, subst, append_assoc, append-nil}
use Rattle.std.specs.Cmp.{eq_by_cmp_equiv}
use Rattle.std.proofs.lemmas.List.{map-append}
use Rattle.std.proofs.lemmas.List.Elements.{filter-append}
use Rattle.std.proofs.lemmas.List.Sums.{fold-append}
use Rattle.std.proofs.lemmas.Map.Views.{tells_apart}
use Rattle.stamp_values.specs.Order.{keys_total, keys_exact}
use Rattle.stamp_values.specs.declared.key.Key.{Key}
use Rattle.stamp_types.specs.World.{Part, changed, no_part, same_pieces}
use Rattle.stamp_types.specs.declared.act.Act.{Act}
use Rattle.stamp_types.specs.declared.piece.Piece.{Piece}
use Rattle.partition_stream.specs.Changes.{Recorded}
use Rattle.partition_stream.specs.Meanings.{is_on, acts_on, after_acts, held_of, IsOneMore}
use Rattle.partition_stream.specs.Positions.{all_changes}
use Rattle.partition_stream.specs.Streams.{ThreeStreams, Logged, logged}
use Rattle.stored_rows.specs.Fitting.{Fits, FitInTurn, AllFit}

-- ---- the acts of one container

pub acts_on-more : (key : Key) (cs ds : List Recorded) → acts_on key (cs ++ ds) ≡ acts_on key cs ++ acts_on key ds
acts_on-more key cs ds =
    ap (map (λ (c : Recorded). c.0.act)) (filter-append (is_on key) cs ds) ∙ map-append (λ (c : Recorded). c.0.act) (filter (is_on key) cs) (filter (is_on key) ds)

pub acts_on-next : (key : Key) (c : Recorded) (cs : List Recorded) (b : Bool) → is_on key c ≡ b → acts_on key (c ∷ cs) ≡ cond b (c.0.act ∷ acts_on key cs) (acts_on key cs)
acts_on-next key c cs true on = ap (λ b. map (λ (d : Recorded). d.0.act) (cond b (c ∷ filter (is_on key) cs) (filter (is_on key) cs))) on
acts_on-next key c cs false off = ap (λ b. map (λ (d : Recorded). d.0.act) (cond b (c ∷ filter (is_on key) cs) (filter (is_on key) cs))) off

pub is_on-own : (c : Recorded) → is_on c.0.key c ≡ true
is_on-own c = (eq_by_cmp_equiv keys_total).refl c.0.key

pub is_on-same : (key : Key) (c : Recorded) → is_on key c ≡ true → c.0.key ≡ key
is_on-same key c on = tells_apart keys_exact c.0.key key on

-- one change more
pub acts_on-one : (key : Key) (cs : List Recorded) (c : Recorded) (b : Bool) → is_on key c ≡ b → acts_on key (cs ++ c ∷ []) ≡ acts_on key cs ++ cond b (c.0.act ∷ []) []
acts_on-one key cs c b on = acts_on-more key cs (c ∷ []) ∙ ap (λ l. acts_on key cs ++ l) (acts_on-next key c [] b on)

-- the container after one change more
pub after_one : (key : Key) (cs : List Recorded) (c : Recorded) (b : Bool) → is_on key c ≡ b
    → after_acts same_pieces (acts_on key (cs ++ c ∷ [])) no_part
    ≡ after_acts same_pieces (cond b (c.0.act ∷ []) []) (after_acts same_pieces (acts_on key cs) no_part)
after_one key cs c b on =
    ap (λ acts. after_acts same_pieces acts no_part) (acts_on-one key cs c b on)
    ∙ fold-append (λ q a. changed same_pieces a q) no_part (acts_on key cs) (cond b (c.0.act ∷ []) [])

-- a change, and those that come after it
acts_on-middle : (before rest : List Recorded) (c : Recorded) → acts_on c.0.key ((before ++ c ∷ []) ++ rest) ≡ acts_on c.0.key before ++ c.0.act ∷ acts_on c.0.key rest
acts_on-middle before rest c =
    ap (acts_on c.0.key) (append_assoc before (c ∷ []) rest) ∙ acts_on-more c.0.key before (c ∷ rest)
    ∙ ap (λ l. acts_on c.0.key before ++ l) (acts_on-next c.0.key c rest true (is_on-own c))

-- ---- acts that fit

pub fit_more : (acts : List Act) (a : Act) (p : Part (List Piece)) → FitInTurn acts p → Fits (after_acts same_pieces acts p) a → FitInTurn (acts ++ a ∷ []) p
fit_more [] a p old new = (new, tt)
fit_more (b ∷ acts) a p old new = (old.0, fit_more acts a (changed same_pieces b p) old.1 new)

fit_at : (acts rest : List Act) (a : Act) (p : Part (List Piece)) → FitInTurn (acts ++ a ∷ rest) p → Fits (after_acts same_pieces acts p) a
fit_at [] rest a p all = all.0
fit_at (b ∷ acts) rest a p all = fit_at acts rest a (changed same_pieces b p) all.1

-- a change fits its container as the changes before it leave it
pub fits_next : (s : ThreeStreams) (before rest : List Recorded) (c : Recorded) → AllFit s → all_changes s ≡ (before ++ c ∷ []) ++ rest
    → Fits (after_acts same_pieces (acts_on c.0.key before) no_part) c.0.act
unfolding AllFit
fits_next s before rest c fit all =
    fit_at (acts_on c.0.key before) (acts_on c.0.key rest) c.0.act no_part
    (subst (λ acts. FitInTurn acts no_part) (ap (acts_on c.0.key) all ∙ acts_on-middle before rest c) (fit c.0.key))

fit_with : (key : Key) (cs : List Recorded) (c : Recorded) (b : Bool) → is_on key c ≡ b → FitInTurn (acts_on key cs) no_part
    → Fits (after_acts same_pieces (acts_on c.0.key cs) no_part) c.0.act → FitInTurn (acts_on key cs ++ cond b (c.0.act ∷ []) []) no_part
fit_with key cs c true on old new =
    fit_more (acts_on key cs) c.0.act no_part old (subst (λ k. Fits (after_acts same_pieces (acts_on k cs) no_part) c.0.act) (is_on-same key c on) new)
fit_with key cs c false off old new = subst (λ acts. FitInTurn acts no_part) (sym (append-nil (acts_on key cs))) old

-- all changes of streams with one change more
pub all_more : (s t : Logged) (c : Recorded) → IsOneMore s c t → t.rows ++ t.log ≡ (s.rows ++ s.log) ++ c ∷ []
all_more s t c more = ap (λ l. l ++ t.log) more.rows ∙ ap (λ l. s.rows ++ l) more.log ∙ sym (append_assoc s.rows s.log (c ∷ []))

pub all_fit_more : (s t : ThreeStreams) (c : Recorded) → AllFit s → IsOneMore (logged s) c (logged t) → Fits (held_of (logged s) c.0.key) c.0.act → AllFit t
unfolding AllFit
all_fit_more s t c fit more own = λ key.
    subst (λ acts. FitInTurn acts no_part)
    (sym (ap (acts_on key) (all_more (logged s) (logged t) c more) ∙ acts_on-one key (all_changes s) c (is_on key c) refl))
    (fit_with key (all_changes s) c (is_on key c) refl (fit key) own)

-- streams with the same changes
pub all_fit_same : (s t : ThreeStreams) → AllFit s → all_changes t ≡ all_changes s → AllFit t
unfolding AllFit
all_fit_same s t fit same = λ key. subst (λ cs. FitInTurn (acts_on key cs) no_part) (sym same) (fit key)

-- streams without a change
pub all_fit_none : (s : ThreeStreams) → all_changes s ≡ [] → AllFit s
unfolding AllFit
all_fit_none s none = λ key. subst (λ cs. FitInTurn (acts_on key cs) no_part) (sym none) tt
