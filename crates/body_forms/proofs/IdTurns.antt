-- The ids of a list of entries, one entry after the other.
use Rattle.std.proofs.Common.{◌≡◌, ℕ, ◌+◌, ◌<◌, List, [], ◌∷◌, ◌++◌, length, drop, map, Option, Some, None, refl, sym, ap, ◌∙◌, append_assoc}
use Rattle.std.specs.Prelude.{option_map, option_and_then, get_or}
use Rattle.std.proofs.lemmas.List.{at_drop_more, map-append}
use Rattle.stamp_values.specs.declared.block.Wanted.{Wanted}
use Rattle.body_forms.specs.declared.elements.Element as code
use Rattle.body_forms.specs.BlockLists.{Entry}
use Rattle.body_forms.specs.BlockListReading.{entry_view}
use Rattle.body_forms.specs.Ids.{wanted_entry, wanted_of, wanted_list}

-- these blocks before the blocks that are read
abbrev pub onto : List Wanted → Option (List Wanted) → Option (List Wanted)
onto done o = option_map (λ ws. done ++ ws) o

pub onto-nil : (o : Option (List Wanted)) → o ≡ onto [] o
onto-nil None = refl
onto-nil (Some ws) = refl

append-nil : (ws : List Wanted) → ws ++ [] ≡ ws
append-nil [] = refl
append-nil (w ∷ ws) = λ i. w ∷ append-nil ws i

-- all entries are read
pub at_end : (whole : Option (List Wanted)) (done : List Wanted) → whole ≡ onto done (wanted_list []) → whole ≡ Some done
unfolding wanted_list
at_end whole done same = same ∙ ap Some (append-nil done)

onto_one : (done : List Wanted) (w : Wanted) (o : Option (List Wanted)) → onto done (option_map (λ ws. w ∷ ws) o) ≡ onto (done ++ w ∷ []) o
onto_one done w None = refl
onto_one done w (Some ws) = ap Some (sym (append_assoc done (w ∷ []) ws))

-- an entry has an id
one_more : (whole : Option (List Wanted)) (done : List Wanted) (w : Wanted) (e : Entry) (es : List Entry)
    → whole ≡ onto done (wanted_list (e ∷ es)) → wanted_of e ≡ Some w → whole ≡ onto (done ++ w ∷ []) (wanted_list es)
unfolding wanted_list
one_more whole done w e es same is =
    same ∙ ap (λ o. onto done (option_and_then (λ w. option_map (λ ws. w ∷ ws) (wanted_list es)) o)) is ∙ onto_one done w (wanted_list es)

-- an entry has no id
no_id : (whole : Option (List Wanted)) (done : List Wanted) (e : Entry) (es : List Entry)
    → whole ≡ onto done (wanted_list (e ∷ es)) → wanted_of e ≡ None → whole ≡ None
unfolding wanted_list
no_id whole done e es same is = same ∙ ap (λ o. onto done (option_and_then (λ w. option_map (λ ws. w ∷ ws) (wanted_list es)) o)) is

-- ---- the same at a place of a list of elements

-- so far these blocks are read, and the entries from this place on are left
abbrev pub Reads : List code.Element → List code.Element → List Wanted → Type 0
Reads es left done =
    (wanted_list (map entry_view es) ≡ onto done (wanted_list (map entry_view left)))
    × (map entry_view es ≡ map wanted_entry done ++ map entry_view left)

entries_more : (es : List code.Element) (i : ℕ) (d : code.Element) → i < length es → map entry_view (drop i es) ≡ entry_view (get_or es i d) ∷ map entry_view (drop (i + 1) es)
entries_more es i d lt = at_drop_more (map entry_view) es i d lt

-- the element at this place has an id
pub next_id : (es : List code.Element) (i : ℕ) (d : code.Element) (done : List Wanted) (w : Wanted) → i < length es → Reads es (drop i es) done
    → wanted_of (entry_view (get_or es i d)) ≡ Some w → entry_view (get_or es i d) ≡ wanted_entry w → Reads es (drop (i + 1) es) (done ++ w ∷ [])
next_id es i d done w lt (value, entries) is same =
    let more = entries_more es i d lt in
    let e = entry_view (get_or es i d) in
    let rest = map entry_view (drop (i + 1) es) in (
      one_more (wanted_list (map entry_view es)) done w e rest (value ∙ ap (λ l. onto done (wanted_list l)) more) is,
      entries ∙ ap (λ l. map wanted_entry done ++ l) (more ∙ ap (λ x. x ∷ rest) same) ∙ sym (append_assoc (map wanted_entry done) (wanted_entry w ∷ []) rest)
          ∙ ap (λ l. l ++ rest) (sym (map-append wanted_entry done (w ∷ []))),
    )

-- the element at this place has no id
pub missing_id : (es : List code.Element) (i : ℕ) (d : code.Element) (done : List Wanted) → i < length es → Reads es (drop i es) done
    → wanted_of (entry_view (get_or es i d)) ≡ None → wanted_list (map entry_view es) ≡ None
missing_id es i d done lt (value, entries) is =
    no_id (wanted_list (map entry_view es)) done (entry_view (get_or es i d)) (map entry_view (drop (i + 1) es))
    (value ∙ ap (λ l. onto done (wanted_list l)) (entries_more es i d lt)) is

entries_nil : (es : List Entry) → es ++ [] ≡ es
entries_nil [] = refl
entries_nil (e ∷ es) = λ i. e ∷ entries_nil es i

-- all elements have ids
pub all_ids : (es : List code.Element) (left : List code.Element) (done : List Wanted) → left ≡ [] → Reads es left done
    → (wanted_list (map entry_view es) ≡ Some done) × (map entry_view es ≡ map wanted_entry done)
all_ids es left done none (value, entries) = (
  at_end (wanted_list (map entry_view es)) done (value ∙ ap (λ l. onto done (wanted_list (map entry_view l))) none),
  entries ∙ ap (λ l. map wanted_entry done ++ map entry_view l) none ∙ entries_nil (map wanted_entry done),
)
