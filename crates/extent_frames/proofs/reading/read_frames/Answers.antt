use Rattle.std.proofs.Common.{arith, ◌≡◌, ◌+◌, ◌/◌, ◌++◌, ◌<◌, length, map, List, [], ◌∷◌, ℕ, sym, ap, subst, ◌∙◌, Bor}
use Rattle.std.proofs.lemmas.List.{map-append}
use Rattle.std.specs.Prelude.{vec_len}
use Rattle.extent_frames.specs.Frames.{EntryBytes}
use Rattle.extent_frames.proofs.FrameLemmas.{HasRead, read_more, read_shorter, read_within}
use Rattle.extent_frames.proofs.reading.read_frames.Goals as goal

abbrev bytes_of : List (Bor (List ℕ)) → List EntryBytes
bytes_of entries = map (λ e. e.now) entries

pub push_reserved-requires : goal.push_reserved-requires
push_reserved-requires g c =
    let digest = g.D.Digest.digest_of c.args.digest.now c.args.segment in
    let left : List ℕ = c.loop-entry.unread.bytes.now in
    let rest : List ℕ = c.frame.new.self.bytes.now in
    let read = c.loop-entry.invariant.0 in
    let shorter = read_shorter digest c.args.file.now left rest (bytes_of c.loop-entry.entries.items) c.loop-entry.index c.in-Some.entry.now (λ i. omega (arith, c.type_inv.file i)) read c.in-Some.ensures in
    let within = read_within digest c.args.file.now left (bytes_of c.loop-entry.entries.items) c.loop-entry.index read in
    let room : c.loop-entry.index < length c.args.file.now / 32 = omega (arith, shorter, within) in
    omega (arith, room, c.loop-entry.invariant.1, c.loop-entry.invariant.2)

pub loop-entry-smaller : goal.loop-entry-smaller
loop-entry-smaller g c =
    let digest = g.D.Digest.digest_of c.args.digest.now c.args.segment in
    let left : List ℕ = c.loop-entry.unread.bytes.now in
    let rest : List ℕ = c.frame.new.self.bytes.now in
    let shorter = read_shorter digest c.args.file.now left rest (bytes_of c.loop-entry.entries.items) c.loop-entry.index c.in-Some.entry.now (λ i. omega (arith, c.type_inv.file i))
    c.loop-entry.invariant.0 c.in-Some.ensures in
    omega (arith, shorter)

pub loop-entry-preserved : goal.loop-entry-preserved
loop-entry-preserved g c =
    let digest = g.D.Digest.digest_of c.args.digest.now c.args.segment in
    let left : List ℕ = c.loop-entry.unread.bytes.now in
    let rest : List ℕ = c.frame.new.self.bytes.now in
    let old = c.loop-entry.entries.items in
    let more = read_more digest c.args.file.now left rest (bytes_of old) c.loop-entry.index c.in-Some.entry.now (λ i. omega (arith, c.type_inv.file i)) c.loop-entry.invariant.0 c.in-Some.ensures in
    let pushed : bytes_of c.push_reserved.new.self.items ≡ bytes_of old ++ c.in-Some.entry.now ∷ [] =
    ap (λ (es : List (Bor (List ℕ))). bytes_of es) c.push_reserved.ensures.items ∙ map-append (λ (e : Bor (List ℕ)). e.now) old (c.in-Some.entry ∷ []) in
    let len : vec_len c.push_reserved.new.self ≡ c.loop-entry.index + 1 = omega (arith, c.push_reserved.ensures.len, c.loop-entry.invariant.1) in (
      subst (λ (es : List EntryBytes). HasRead digest c.args.file.now es (c.loop-entry.index + 1) rest) (sym pushed) more,
      len,
      c.push_reserved.ensures.capacity ∙ c.loop-entry.invariant.2,
    )
