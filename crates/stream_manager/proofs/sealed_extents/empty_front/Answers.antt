use Rattle.std.proofs.Common.{◌≡◌, ◌≤◌, ◌<◌, ◌+◌, ◌++◌, ◌∷◌, ◌∙◌, [], ap, append_assoc, arith, get_or, length, sym, take}
use Rattle.std.specs.Prelude.{slice_set}
use Rattle.extent_seal.specs.Extents.{no_blocks}
use Rattle.stream_manager.specs.GivenUp.{with_blocks}
use Rattle.stream_manager.proofs.GivenUpLemmas.{filled_count, filled_more, filled_next, front_more, old_at}
use Rattle.stream_manager.proofs.sealed_extents.empty_front.Goals as goal

pub keep-requires : goal.keep-requires
keep-requires c =
    let xs = c.args.handles.now.items in
    let i = c.loop-i.i in
    let at : c.replace-handle.result ≡ get_or xs i c.replace-handle.result =
    old_at i xs c.loop-i.handles.items c.index_mut.result.now c.replace-handle.result c.loop-i.invariant.left c.index_mut.ensures.value c.replace-handle.ensures.value in
    let within : i < c.args.count = omega arith in
    let fits : length (with_blocks (take c.args.count xs)) ≤ c.loop-i.room.room + length (with_blocks (take i xs)) = omega (arith, c.requires.room, c.loop-i.invariant.room) in
    λ some. filled_next i c.args.count c.loop-i.room.room xs c.replace-handle.result within c.requires.there at some fits

pub loop-i-preserved : goal.loop-i-preserved
loop-i-preserved c =
    let xs = c.args.handles.now.items in
    let i = c.loop-i.i in
    let there : i < length xs = omega (arith, c.requires.there) in
    let at : c.replace-handle.result ≡ get_or xs i c.replace-handle.result =
    old_at i xs c.loop-i.handles.items c.index_mut.result.now c.replace-handle.result c.loop-i.invariant.left c.index_mut.ensures.value c.replace-handle.ensures.value in
    let none : c.replace-handle.new.dest ≡ no_blocks = c.replace-handle.ensures.after ∙ (c.new-none.ensures ∙ c.none.ensures) in
    let count = filled_count i xs c.replace-handle.result there at in
    record {
      left = ap (λ l. slice_set l i c.replace-handle.new.dest) c.loop-i.invariant.left ∙ front_more i xs c.replace-handle.new.dest there none;
      given =
          c.keep.ensures.extents ∙ ap (λ l. l ++ with_blocks (c.replace-handle.result ∷ [])) c.loop-i.invariant.given
          ∙ append_assoc c.args.room.now.extents (with_blocks (take i xs)) (with_blocks (c.replace-handle.result ∷ []))
          ∙ ap (λ l. c.args.room.now.extents ++ l) (sym (filled_more i xs c.replace-handle.result there at));
      room = omega (arith, count, c.keep.ensures.room, c.loop-i.invariant.room);
    }
