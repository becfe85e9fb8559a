use Rattle.std.proofs.Common.{◌≡◌, ◌++◌, take, flat_map}
use Rattle.body_forms.specs.WrittenPages.{meta_text}
use Rattle.body_forms.proofs.written_pages.append_metas.Given as goal

abbrev pub invariant-loop-meta : goal.invariant-loop-meta
invariant-loop-meta l = l.out.items ≡ l.initial.out.items ++ flat_map meta_text (take l.meta-index l.metas)
