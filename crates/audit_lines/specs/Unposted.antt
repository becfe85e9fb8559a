-- Entries that were not posted (the stamp's own).
use Rattle.policy_book.specs.Entries.{AuditEntry}
use Rattle.audit_lines.specs.declared.books.Unposted.{Unposted}
use Rattle.audit_lines.specs.declared.books.Unposted.TheVariants.{Full, NoMemory}

-- the entry that comes back
abbrev pub entry_back : Unposted → AuditEntry
entry_back (Full entry) = entry
entry_back (NoMemory entry) = entry
