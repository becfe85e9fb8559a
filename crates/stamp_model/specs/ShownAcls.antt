-- What a Get Container ACL shows after a Set Container ACL (Blob service REST reference, 2012-02-12, "Set Container ACL", "Get
-- Container ACL").
use Rattle.std.specs.Prelude.{◌≡◌, List, ◌∷◌, ◌++◌, unwrap_or}
use Rattle.stamp_values.specs.declared.level.Level.TheVariants as level
use Rattle.stamp_values.specs.declared.policy.Policy.{Policy}
use Rattle.stamp_types.specs.declared.reply.Reply.{Reply}
use Rattle.stamp_types.specs.Requests.{Asked}
use Rattle.body_forms.specs.PolicyValues.{SaysPolicies}
use Rattle.body_forms.specs.WrittenPolicies.{policies_text}
use Rattle.stamp_types.specs.Replies.{xml_header}
use Rattle.range_rows.specs.Frames.{level_headers}

-- the reply shows the level that this Set Container ACL asked for, or no level if it asked for none, with the ETag and the moment of
-- its answer; and it shows the policies that its body says, so whoever reads the body of the reply reads the same policies
pub record ShowsAcl (set : Asked) (answer shown : Reply) : Type 0 where
  pub headers : shown.headers ≡ xml_header ∷ level_headers (unwrap_or set.ask.args.level level.Closed) ++ answer.headers
  pub policies : List Policy
  pub sent : SaysPolicies set.body policies
  pub body : shown.body ≡ policies_text policies
  pub read : SaysPolicies shown.body policies
