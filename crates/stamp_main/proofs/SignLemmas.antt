-- What is written for an input that is signed.
use Rattle.std.proofs.Common.{◌≡◌, ℕ, List, Option, Some, None, IfSome, subst, ap, ◌∙◌}
use Rattle.http_front.specs.Connections.{WriterState, Sends}
use Rattle.stamp_main.specs.Signing.{signature_line}

-- the line was given to the writer
pub sent_signature : (key : List ℕ) (left : Option (List ℕ)) (from a b : WriterState) (bytes line : List ℕ) → a ≡ from → IfSome left (λ input. bytes ≡ input)
    → line ≡ signature_line key bytes → Sends a b line → IfSome left (λ input. Sends from b (signature_line key input))
sent_signature key None from a b bytes line same whole is sent = tt
sent_signature key (Some input) from a b bytes line same whole is sent =
    subst (Sends from b) (is ∙ ap (signature_line key) whole) (subst (λ (w : WriterState). Sends w b line) same sent)
