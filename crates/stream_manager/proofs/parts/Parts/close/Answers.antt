use Rattle.std.proofs.Common.{rules, ◌≡◌, ◌++◌, ◌∷◌, [], subst}
use Rattle.extent_seal.specs.Seals.{IsCommitted}
use Rattle.stream_manager.proofs.PlaceLemmas.{seal_moves}
use Rattle.stream_manager.proofs.parts.Parts.close.Goals as goal

pub returns-in-Ok-clause-moved : goal.returns-in-Ok-clause-moved
returns-in-Ok-clause-moved g c =
    let same : c.replace-last.result ≡ c.args.self.now.last = search rules in
    let pushed : c.push_reserved.new.self.extents ≡ c.args.self.now.sealed.extents ++ c.in-Ok.sealed ∷ [] = search rules in
    seal_moves c.args.self.now.sealed.extents c.push_reserved.new.self.extents c.in-Ok.sealed c.args.self.now.last.extent
    c.len-len.result c.commit_len.result pushed
    (subst (λ last. IsCommitted last.extent c.in-Ok.sealed.blocks) same c.in-Ok.ensures.committed)
    c.len-len.ensures c.commit_len.ensures
