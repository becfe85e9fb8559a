-- A change that is logged without an older doubt is one more change.
use Rattle.std.proofs.Common.{◌≡◌, ◌∙◌, Bool, true, false, Option, None, [], ◌∷◌, ◌++◌, ap, refl}
use Rattle.std.specs.Option.{option_to_list}
use Rattle.extent_node.specs.Faults.{held}
use Rattle.stream_manager.specs.Places.{blocks_of, is_kept}
use Rattle.stream_manager.specs.Streams.{laid}
use Rattle.partition_stream.specs.Changes.{Recorded, changes_of}
use Rattle.partition_stream.specs.Meanings.{IsOneMore}
use Rattle.partition_stream.specs.Outcomes.{Logs, with_kept}
use Rattle.partition_stream.specs.Streams.{ThreeStreams, logged}

nothing_held : (kept : Bool) (doubt : Option Recorded) → doubt ≡ None → held kept doubt ≡ []
nothing_held true doubt none = ap option_to_list none
nothing_held false doubt none = refl

-- a change that is logged is one more
pub one_more_logged : (s t : ThreeStreams) (c : Recorded) → (logged s).doubt ≡ None → Logs s (c ∷ []) None t → t.rows ≡ s.rows → IsOneMore (logged s) c (logged t)
one_more_logged s t c none h rows = record {
  rows = ap (λ r. changes_of (blocks_of (laid r))) rows;
  log = h.changes ∙ ap (λ l. (logged s).log ++ with_kept l (c ∷ [])) (nothing_held (is_kept (laid s.log) s.log.last (laid t.log)) (logged s).doubt none);
}
