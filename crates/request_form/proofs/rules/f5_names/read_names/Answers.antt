use Rattle.std.proofs.Common.{◌∙◌}
use Rattle.request_form.proofs.TextLemmas.{blob_named, blob_not_asked, no_bad_name}
use Rattle.request_form.proofs.rules.f5_names.read_names.Goals.{in-NotAsked, in-Good}
use Rattle.request_form.proofs.rules.f5_names.read_names.Goals as goal

pub returns : goal.returns
returns c =
    let key = rw c.in-Some.is at c.in_ok-key.ensures in
    let known = c.in_ok-blob_name.ensures in
    elim c.match-branch-4.branch [
      | in-NotAsked w ↦
          let blob = blob_not_asked c.args.op c.args.path.now (rw w.in-NotAsked.is at known) in
          record { good = no_bad_name c.args.op c.args.path.now key.0 blob.0; key = key.1; blob = w.blob-is ∙ blob.1 }
      | in-Good w ↦
          let named = rw w.in-Good.is at known in
          let blob = blob_named c.args.op c.args.path.now w.in-Good.name named.0 named.1 in
          record { good = no_bad_name c.args.op c.args.path.now key.0 blob.0; key = key.1; blob = w.blob-is ∙ blob.1 }
    ]
