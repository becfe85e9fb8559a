use Rattle.std.proofs.Common.{refl, le_refl, arith}
use Rattle.xml_text.proofs.AttributeTurns.{next_turn, no_turn}
use Rattle.xml_text.proofs.tokens.Tokens.attributes.Goals as goal

pub attributes-init : goal.attributes-init
attributes-init c = (le_refl _, λ n h. (n, h, refl))

pub returns-in-None-clause-value : goal.returns-in-None-clause-value
returns-in-None-clause-value c n h = no_turn _ _ c.attributes.invariant.1 c.in-None.ensures.value n h

pub returns-in-Some-Some-clause-value : goal.returns-in-Some-Some-clause-value
returns-in-Some-Some-clause-value c n h =
    let read = rw c.in-Some-Some.field-0-is at c.in-Some-Some.ensures.value in
    let (m, room, same) = next_turn _ _ _ _ c.attributes.invariant.1 read n h in same

pub attributes-preserved : goal.attributes-preserved
attributes-preserved c =
    let read = rw c.in-Some-None.field-0-is at c.in-Some-None.ensures.value in
    let shorter = c.in-Some-None.ensures.shorter in (
      omega (arith, c.attributes.invariant.0, shorter),
      λ n h. let (m, room, same) = next_turn _ _ _ _ c.attributes.invariant.1 read n h in (m, omega (arith, room, shorter), same),
    )
