-- Replies whose content is read later (SOSP 2011, section 4.1: a sealed extent never changes).
use Rattle.std.specs.Prelude.{ℕ, Bool, List, ◌++◌}
use Rattle.std.specs.List.{flat_map, list_all}
use Rattle.stamp_types.specs.declared.reply.Reply.{Reply}
use Rattle.partition_stream.specs.Parts.{KeptPart}

-- the bytes that parts give, joined
abbrev pub parts_bytes : List KeptPart → List ℕ
parts_bytes ps = flat_map (λ p. p.bytes) ps

-- the bytes of each part were read already
abbrev pub are_read : List KeptPart → Bool
are_read ps = list_all (λ p. p.is_read) ps

-- the reply with the bytes of these parts after its body
abbrev pub with_parts : Reply → List KeptPart → Reply
with_parts r ps = record r { body = r.body ++ parts_bytes ps }
