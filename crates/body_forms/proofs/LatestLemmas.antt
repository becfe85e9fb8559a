-- An element `Latest` whose tags have neither attributes nor white space.
use Rattle.std.proofs.Common.{◌≡◌, ℕ, true, List, ◌++◌, Some, refl, ap, ◌∙◌, subst}
use Rattle.std.specs.Prelude.{codes}
use Rattle.stamp_values.specs.declared.block.Lookup.TheVariants.{Latest}
use Rattle.xml_text.specs.declared.tokens.Kind.TheVariants.{Opening, Closing}
use Rattle.xml_text.specs.Reading.{tag_at, text_at}
use Rattle.xml_text.specs.ElementReading.{closed_at, next_at, value_of}
use Rattle.xml_text.specs.WrittenElements.{opening_text, closing_text}
use Rattle.xml_text.proofs.Complete.{tag_read}
use Rattle.xml_text.proofs.WrittenElements.{opening_is, closing_is}
use Rattle.body_forms.specs.BlockLists.{list_name}
use Rattle.body_forms.specs.BlockListReading.{entry_at}

abbrev latest : List ℕ
latest = codes "Latest"

opening_bytes : opening_text latest ≡ codes "<Latest>"
unfolding opening_text
opening_bytes = refl

closing_bytes : closing_text latest ≡ codes "</Latest>"
unfolding closing_text
closing_bytes = refl

opening_read : (t : List ℕ) → tag_at (codes "<Latest>" ++ t) ≡ Some (record { kind = Opening; name = latest }, t)
opening_read t = subst (λ (s : List ℕ). tag_at (s ++ t) ≡ Some (record { kind = Opening; name = latest }, t)) opening_bytes (tag_read (record { kind = Opening; name = latest }) (opening_text latest) t (opening_is latest refl))

closing_read : (t : List ℕ) → tag_at (codes "</Latest>" ++ t) ≡ Some (record { kind = Closing; name = latest }, t)
closing_read t = subst (λ (s : List ℕ). tag_at (s ++ t) ≡ Some (record { kind = Closing; name = latest }, t)) closing_bytes (tag_read (record { kind = Closing; name = latest }) (closing_text latest) t (closing_is latest refl))

closed : (t : List ℕ) → closed_at latest (codes "</Latest>" ++ t) ≡ Some (true, t)
unfolding closed_at
closed t = rw (closing_read t) refl

entry_read : (t w r : List ℕ) → text_at t ≡ Some (w, codes "</Latest>" ++ r) → entry_at (record { kind = Opening; name = latest }) t ≡ Some (record { lookup = Latest; id_text = value_of w }, r)
unfolding entry_at
entry_read t w r is = rw (is, closed r) refl

next_read : (t w r : List ℕ) → text_at t ≡ Some (w, codes "</Latest>" ++ r)
    → next_at list_name entry_at (codes "<Latest>" ++ t) ≡ Some (Some (record { lookup = Latest; id_text = value_of w }), r)
unfolding next_at
next_read t w r is = rw (opening_read t, entry_read t w r is) refl

-- such an element is what comes next
pub latest_next : (s t w q r : List ℕ) → s ≡ codes "<Latest>" ++ t → text_at t ≡ Some (w, q) → q ≡ codes "</Latest>" ++ r
    → next_at list_name entry_at s ≡ Some (Some (record { lookup = Latest; id_text = value_of w }), r)
latest_next s t w q r begins is ends = ap (next_at list_name entry_at) begins ∙ next_read t w r (is ∙ ap (λ (x : List ℕ). Some (w, x)) ends)
