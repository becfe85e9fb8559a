-- What is so of each block of a stream stays so after appends, settles and seals.
use Rattle.std.proofs.Common.{◌≡◌, ◌∙◌, ℕ, Bool, true, false, Option, Some, None, IfSome, Result, Ok, Err, List, [], ◌∷◌, ◌++◌, All, sym, ap, subst, refl, inl, inr, append-nil}
use Rattle.std.proofs.lemmas.List.Elements.{All-nil, All-cons, All-append, All-same}
use Rattle.extent_node.specs.Copies.{Block}
use Rattle.extent_node.specs.Faults.{held}
use Rattle.stream_manager.specs.Outcomes.{IsSettled, IsSealed}
use Rattle.stream_manager.specs.Places.{blocks_of, is_kept, Follows}
use Rattle.stream_manager.specs.Streams.{Streamed, laid}
use Rattle.stream_manager.specs.declared.faults.Settled.{Settled}
use Rattle.stream_manager.specs.declared.faults.Settled.TheVariants as settled
use Rattle.stream_manager.specs.declared.faults.StoredFault.{StoredFault}
use Rattle.partition_stream.specs.Logging.{HasMore, IsSameStream, IsRecordAppended}
use Rattle.partition_stream.specs.declared.faults.TakeFault.{TakeFault}
use Rattle.partition_stream.specs.declared.faults.TakeFault.TheVariants as fault

-- P holds of each block, and of the block that is in doubt
pub record Each (P : Block → Type 0) (s : Streamed) : Type 0 where
  pub blocks : All P (blocks_of (laid s))
  pub doubt : IfSome s.last.tried P

of_held : (P : Block → Type 0) (kept : Bool) (tried : Option Block) → IfSome tried P → All P (held kept tried)
of_held P false tried is = All-nil P
of_held P true None is = All-nil P
of_held P true (Some d) is = All-cons P d [] is (All-nil P)

pub each_more : (P : Block → Type 0) (s t : Streamed) (added : List Block) (tried : Option Block)
    → Each P s → All P added → IfSome tried P → HasMore s added tried t → Each P t
each_more P s t added tried old new doubt h = record {
  blocks = All-same P _ _ h.blocks (All-append P _ _ old.blocks (All-append P _ _ (of_held P (is_kept (laid s) s.last (laid t)) s.last.tried old.doubt) new));
  doubt = subst (λ o. IfSome o P) (sym h.left) doubt;
}

pub each_same : (P : Block → Type 0) (s t : Streamed) → Each P s → IsSameStream s t → Each P t
each_same P s t old h = record {
  blocks = subst (λ es. All P (blocks_of es)) (sym h.blocks) old.blocks;
  doubt = subst (λ last. IfSome last.tried P) (sym h.last) old.doubt;
}

-- a record was appended
pub each_appended : (P : Block → Type 0) (r : Result ℕ TakeFault) (s t : Streamed) (block : Block)
    → Each P s → P block → IsRecordAppended r s block t → Each P t
each_appended P (Ok n) s t block old new h = each_more P s t (block ∷ []) None old (All-cons P block [] new (All-nil P)) tt h
each_appended P (Err fault.Doubt) s t block old new h = each_more P s t [] (Some block) old (All-nil P) new h
each_appended P (Err fault.Busy) s t block old new h = elim h [ inl more ↦ each_more P s t [] None old (All-nil P) tt more | inr same ↦ each_same P s t old same ]
each_appended P (Err fault.NoMemory) s t block old new h = subst (Each P) (sym h) old

-- these blocks came after those that were there
followed : (s t : Streamed) (added : List Block) → Follows (laid s) added (laid t) → blocks_of (laid t) ≡ blocks_of (laid s) ++ added
followed s t added f = f.order

-- a seal that succeeded
pub more_sealed : (s t : Streamed) → Follows (laid s) (held (is_kept (laid s) s.last (laid t)) s.last.tried) (laid t) → t.last.tried ≡ None → HasMore s [] None t
more_sealed s t f none = record { blocks = f.order ∙ ap (λ l. blocks_of (laid s) ++ l) (sym (append-nil _)); left = none }

pub each_sealed : (P : Block → Type 0) (r : Result (Unit {0}) StoredFault) (s t : Streamed)
    → Each P s → IsSealed r (laid s) s.last (laid t) t.last → Each P t
each_sealed P (Ok u) s t old h = each_more P s t [] None old (All-nil P) tt (more_sealed s t h.0 h.2)
each_sealed P (Err e) s t old h = each_same P s t old (record { blocks = h.0; last = h.1 })

-- blocks that came after those that were there, and no doubt
each_followed : (P : Block → Type 0) (s t : Streamed) (added : List Block) → Each P s → All P added → Follows (laid s) added (laid t) → t.last.tried ≡ None → Each P t
each_followed P s t added old new f none = record {
  blocks = All-same P _ _ f.order (All-append P _ _ old.blocks new);
  doubt = subst (λ o. IfSome o P) (sym none) tt;
}

pub each_settled : (P : Block → Type 0) (r : Result Settled StoredFault) (s t : Streamed)
    → Each P s → IsSettled r (laid s) s.last (laid t) t.last → Each P t
each_settled P (Ok settled.Clean) s t old h = each_same P s t old (record { blocks = h.1; last = h.2 })
each_settled P (Ok (settled.Kept p)) s t old h =
    let own : P h.0.0 = subst (λ o. IfSome o P) h.0.1 old.doubt in
    each_followed P s t (h.0.0 ∷ []) old (All-cons P h.0.0 [] own (All-nil P)) h.0.2 h.1
each_settled P (Ok settled.Dropped) s t old h = each_followed P s t [] old (All-nil P) h.1 h.2
each_settled P (Err e) s t old h = each_same P s t old (record { blocks = h.1; last = h.2 })

-- a stream without blocks
pub no_blocks : (s : Streamed) → s.sealed ≡ [] → s.last.blocks ≡ [] → laid s ≡ [] ∷ []
no_blocks s none empty = rw (none, empty) refl

pub each_empty : (P : Block → Type 0) (s : Streamed) → s.sealed ≡ [] → s.last.blocks ≡ [] → s.last.tried ≡ None → Each P s
each_empty P s none empty sure = record {
  blocks = subst (λ es. All P (blocks_of es)) (sym (no_blocks s none empty)) (All-nil P);
  doubt = subst (λ o. IfSome o P) (sym sure) tt;
}

-- two streams with the same sealed extents, and no block after them
pub same_laid : (s t : Streamed) → t.sealed ≡ s.sealed → s.last.blocks ≡ [] → t.last.blocks ≡ [] → laid t ≡ laid s
same_laid s t same none empty = rw (same, none, empty) refl
