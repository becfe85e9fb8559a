use Rattle.std.proofs.Common.{◌∙◌, sym, ap, map, filter, ◌≡◌, []}
use Rattle.stamp_values.specs.declared.signing.Field.{Field}
use Rattle.shared_key.specs.Strings.{field_pair, is_ms}
use Rattle.shared_key.proofs.Named.{put_all_step, put_all-nothing}
use Rattle.shared_key.proofs.headers.named.Goals as goal

pub loop-header-preserved-in_ok-insert : goal.loop-header-preserved-in_ok-insert
loop-header-preserved-in_ok-insert c =
    put_all_step c.loop-header.left c.next_back.new.self c.in-Some.header c.loop-header.named.entries c.insert.new.self.entries c.header.inside.name c.header.inside.value _
    c.in-Some.ensures.steps (sym c.is_ms.ensures ∙ c.if-is_ms.true) (ap (λ (f : Field). f.name) c.header.view_is) (ap (λ (f : Field). f.value) c.header.view_is) c.in_ok-insert.ensures.entries c.loop-header.invariant

pub returns : goal.returns
returns c =
    let done : c.loop-header.left ≡ [] = c.in_default.ensures.steps.0 in
    rw done at c.loop-header.invariant ∙ put_all-nothing (map field_pair (filter is_ms c.args.headers.now))
