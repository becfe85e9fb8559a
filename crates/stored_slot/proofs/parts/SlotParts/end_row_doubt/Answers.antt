use Rattle.stored_slot.specs.Sweeps.{KeepsContainers}
use Rattle.stored_slot.proofs.SweepLemmas.{beside_settled, beside_slot, ended_beside}
use Rattle.stored_slot.proofs.parts.SlotParts.end_row_doubt.Goals as goal

pub returns-in-Ok-clause-after : goal.returns-in-Ok-clause-after
returns-in-Ok-clause-after g c =
    let e = c.end_row_doubt.ensures in
    let beside : KeepsContainers c.args.self.now.stored c.end_row_doubt.new.self = ended_beside c.args.self.now.stored c.end_row_doubt.new.self e.means e.range e.limits e.own in
    beside_settled g.H.Histories.held c.args.self.now c.end_row_doubt.new.self c.requires.before beside

pub returns-in-Ok-clause-same : goal.returns-in-Ok-clause-same
returns-in-Ok-clause-same g c =
    let e = c.end_row_doubt.ensures in
    let beside : KeepsContainers c.args.self.now.stored c.end_row_doubt.new.self = ended_beside c.args.self.now.stored c.end_row_doubt.new.self e.means e.range e.limits e.own in
    beside_slot g.H.Histories.held c.args.self.now c.end_row_doubt.new.self c.requires.before beside

pub returns-in-Err-clause-after : goal.returns-in-Err-clause-after
returns-in-Err-clause-after g c =
    let e = c.end_row_doubt.ensures in
    let beside : KeepsContainers c.args.self.now.stored c.end_row_doubt.new.self = ended_beside c.args.self.now.stored c.end_row_doubt.new.self e.means e.range e.limits e.own in
    beside_settled g.H.Histories.held c.args.self.now c.end_row_doubt.new.self c.requires.before beside

pub returns-in-Err-clause-same : goal.returns-in-Err-clause-same
returns-in-Err-clause-same g c =
    let e = c.end_row_doubt.ensures in
    let beside : KeepsContainers c.args.self.now.stored c.end_row_doubt.new.self = ended_beside c.args.self.now.stored c.end_row_doubt.new.self e.means e.range e.limits e.own in
    beside_slot g.H.Histories.held c.args.self.now c.end_row_doubt.new.self c.requires.before beside
