use Rattle.std.proofs.Common.{◌≡◌}
use Rattle.stamp_types.proofs.EachContents.{EachActContent-all, EachActContent-content_of, EachContent-changed, EachContent-empty, EachContent-from_part_value, EachContent-no_part, EachContent-part_value, EachWorldContent-changed_in, EachWorldContent-empty}
use Rattle.stamp_types.proofs.content_laws.a_change_adds_its_own_content_alone.Goals as goal

pub returns-clause-part : goal.returns-clause-part
returns-clause-part g c = λ k h f a p old new. EachContent-changed (λ x. k x ≡ h x) f a p old new

pub returns-clause-world : goal.returns-clause-world
returns-clause-world g c = λ k h f w change old new. EachWorldContent-changed_in (λ x. k x ≡ h x) f w change old new

pub returns-clause-brought : goal.returns-clause-brought
returns-clause-brought g c = λ k h a ps own. EachActContent-content_of (λ qs. k qs ≡ h qs) a ps own

pub returns-clause-any : goal.returns-clause-any
returns-clause-any g c = λ k h a all. EachActContent-all (λ ps. k ps ≡ h ps) all a

pub returns-clause-none : goal.returns-clause-none
returns-clause-none g c = λ k h. EachContent-no_part (λ x. k x ≡ h x)

pub returns-clause-empty : goal.returns-clause-empty
returns-clause-empty g c = λ k h p none. EachContent-empty (λ x. k x ≡ h x) p none

pub returns-clause-empty_world : goal.returns-clause-empty_world
returns-clause-empty_world g c = λ k h. EachWorldContent-empty (λ x. k x ≡ h x)

pub returns-clause-read : goal.returns-clause-read
returns-clause-read g c = λ k h f p. (λ each. EachContent-from_part_value (λ y. k y ≡ h y) f p each, λ each. EachContent-part_value (λ y. k y ≡ h y) f p each)
