-- What a container's level of public access permits (Blob service REST reference, 2012-02-12, Set Container ACL).
use Rattle.std.specs.Prelude.{Bool, nat_le}
use Rattle.stamp_values.specs.declared.acl.Acl.{Acl}
use Rattle.stamp_values.specs.declared.level.Level.{Level}
use Rattle.stamp_values.specs.Levels.{level_number}

-- the container's level is the level needed or a greater one
abbrev pub permits : Acl → Level → Bool
permits acl need = nat_le (level_number need) (level_number acl.level)
