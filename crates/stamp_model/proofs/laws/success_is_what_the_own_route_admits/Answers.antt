use Rattle.std.proofs.Common.{◌∙◌, ap, Option}
use Rattle.std.specs.Option.{option_map}
use Rattle.stamp_types.specs.declared.refusal.Refusal.{Refusal}
use Rattle.stamp_types.specs.World.{part_at}
use Rattle.range_rows.specs.SentContent.{sizes}
use Rattle.stamp_model.proofs.ReplyLemmas.{rule-reply, reply-admits, reply-unrefused, refusal-admitted, reply-admitted, unrefused}
use Rattle.stamp_model.proofs.laws.success_is_what_the_own_route_admits.Goals as goal

pub returns-clause-admitted : goal.returns-clause-admitted
returns-clause-admitted c = λ keys w q t bound none. reply-admits keys w q t bound none

pub returns-clause-unopposed : goal.returns-clause-unopposed
returns-clause-unopposed c = λ keys w q t bound none. (unrefused keys (sizes (part_at w q.ask.key)) q t (reply-unrefused keys w q t bound none)).unopposed

pub returns-clause-unnamed : goal.returns-clause-unnamed
returns-clause-unnamed c = λ keys w q t bound admits free.
    rule-reply keys w q t bound ∙ ap (λ (o : Option Refusal). option_map (λ (r : Refusal). r.rule) o) (refusal-admitted keys w q t bound admits free)

pub returns-clause-answered : goal.returns-clause-answered
returns-clause-answered c = λ keys w q t bound none. reply-admitted keys w q t bound (reply-unrefused keys w q t bound none)
