-- What the token by which a request asks replaces in the reply.
use Rattle.std.proofs.Common.{◌≡◌, true, cond, Option, Some, None, ap, ◌∙◌}
use Rattle.std.specs.Option.{option_map_or}
use Rattle.stamp_types.specs.declared.ask.Ask.{Ask}
use Rattle.sas_token.specs.Tokens.{Sent, are_visible, no_overrides}
use Rattle.sas_token.specs.TokenReading.{replaced_headers, token_of}
use Rattle.sas_token.proofs.ReadingLemmas.{read_visible}
use Rattle.access_rules.specs.Rules.{on_token, token_asked}
use Rattle.access_rules.specs.TokenParts.{token_in}
use Rattle.range_rows.specs.Replaced.{nothing_replaced}
use Rattle.stamp_model.specs.Overrides.{replaced_by}

-- a request on the signature route asks by the token that its query is
asked : (q : Ask) (o : Option Sent) → on_token q.credential ≡ true → o ≡ token_asked q → o ≡ token_of q.signing.query
asked q o on is = is ∙ ap (λ b. cond b (token_in q) None) on

-- the token by which a request asks replaces what its query replaces
pub by_some : (q : Ask) (t : Sent) → on_token q.credential ≡ true → Some t ≡ token_asked q → replaced_by t.overrides ≡ replaced_by (replaced_headers q.signing.query)
by_some q t on is = ap (λ o. replaced_by (option_map_or (λ t. t.overrides) o no_overrides)) (asked q (Some t) on is)

-- a request without a token replaces nothing
pub by_none : (q : Ask) → on_token q.credential ≡ true → None ≡ token_asked q → nothing_replaced ≡ replaced_by (replaced_headers q.signing.query)
by_none q on is = ap (λ o. replaced_by (option_map_or (λ t. t.overrides) o no_overrides)) (asked q None on is)

-- each text that the token replaces a header with is of printable ASCII
pub is_visible_one : (q : Ask) (t : Sent) → on_token q.credential ≡ true → Some t ≡ token_asked q → are_visible t.overrides ≡ true
is_visible_one q t on is = ap (λ o. are_visible (option_map_or (λ t. t.overrides) o no_overrides)) (asked q (Some t) on is) ∙ read_visible q.signing.query
