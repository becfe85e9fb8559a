-- Who may read a container without a signature, and its policies (Blob service REST reference, 2012-02-12, "Set Container ACL").
use Rattle.std.specs.Prelude.{Option}
use Rattle.std.specs.Option.{option_map}
use Rattle.stamp_values.specs.declared.acl.Acl.{Acl}
use Rattle.stamp_types.specs.World.{Part}

-- the level and the policies of a container, if the container exists
abbrev pub acl_of : {C : Type 0} → Part C → Option Acl
acl_of p = option_map (λ s. s.acl) p.standing
