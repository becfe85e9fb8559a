use Rattle.audit_lines.proofs.LineLemmas.{joined}
use Rattle.audit_lines.proofs.line.append_line.Goals as goal

pub returns : goal.returns
returns c =
    joined _ _ _ _ _ _ _ _ _ _ _ c.in_ok-append_moment_and_way.ensures c.in_ok-append_by_field.ensures c.in_ok-append_request.ensures
