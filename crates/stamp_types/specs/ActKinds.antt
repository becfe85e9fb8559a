-- Kinds of changes (Blob service REST reference, 2012-02-12, Create Container, Set Container ACL, Delete Container; SOSP 2011, section 5.3,
-- checkpoints).
use Rattle.std.specs.Prelude.{Bool, true, false}
use Rattle.stamp_types.specs.declared.act.Act.{Act}
use Rattle.stamp_types.specs.declared.act.Act.TheVariants as act

-- the act is a row of a checkpoint, which says what the changes before the checkpoint left
abbrev pub is_row : Act → Bool
is_row (act.ContainerRow a) = true
is_row (act.StoredBlob a) = true
is_row other = false

-- the act may alter the level and the policies: it makes the container, sets its access, deletes it, or is its row of a checkpoint
abbrev pub sets_access : Act → Bool
sets_access (act.CreateContainer a) = true
sets_access (act.SetAcl a) = true
sets_access act.DeleteContainer = true
sets_access (act.ContainerRow a) = true
sets_access other = false
