use Rattle.std.proofs.Common.{◌≡◌, ◌++◌, take, flat_map}
use Rattle.body_forms.specs.WrittenPages.{entry_text, blob_text}
use Rattle.body_forms.proofs.written_pages.append_blob_entries.Given as goal

abbrev pub invariant-loop-entry : goal.invariant-loop-entry
invariant-loop-entry l = l.out.items ≡ l.initial.out.items ++ flat_map (entry_text (blob_text l.asked)) (take l.entry-index l.entries)
