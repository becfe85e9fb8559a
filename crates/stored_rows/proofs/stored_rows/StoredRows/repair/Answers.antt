use Rattle.stored_rows.proofs.stored_rows.StoredRows.repair.Goals as goal

pub returns-in-Err-Unreachable-clause-called : goal.returns-in-Err-Unreachable-clause-called
returns-in-Err-Unreachable-clause-called g c = rw c.in-Err-Unreachable.field-0-is at c.in-Err-Unreachable.ensures.called

pub returns-in-Err-NoMemory-clause-called : goal.returns-in-Err-NoMemory-clause-called
returns-in-Err-NoMemory-clause-called g c = rw c.in-Err-NoMemory.field-0-is at c.in-Err-NoMemory.ensures.called
