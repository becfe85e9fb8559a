-- What a slot without a doubt does if no call fails.
use Rattle.std.proofs.Common.{◌≡◌, ◌⊎◌, inl, inr, ℕ, Option, Some, None, Result, Ok, Err, IfOk, OnErr, refl, sym, ap, ◌∙◌, subst}
use Rattle.std.specs.Prelude.{IsSome}
use Rattle.stamp_values.specs.declared.key.Key.{Key}
use Rattle.stamp_types.specs.declared.past.Past.{Past}
use Rattle.stamp_types.specs.declared.reply.Reply.{Reply}
use Rattle.stamp_types.specs.Requests.{Asked}
use Rattle.tickets.specs.declared.answer.Answer.{Answer}
use Rattle.tickets.specs.declared.answer.Answer.TheVariants as answer
use Rattle.policy_book.specs.Entries.{AuditEntry}
use Rattle.slot_state.specs.Slots.{IsServed, SlotState, lower_half, upper_half}
use Rattle.stored_slot.specs.Audits as stored
use Rattle.stored_slot.proofs.AuditLemmas.{audits_serve}
use Rattle.stored_slot.specs.Served.{ServesBy, SlotServes}
use Rattle.stored_slot.specs.Settled.{CutsSettled, SettlesDoubtBy, SettlesSlot}
use Rattle.served_slots.specs.Audits.{AuditsInSlot}
use Rattle.served_slots.specs.Steps.{SaysReply}

-- a request that is served without an entry
pub unaudited : (s : SlotState) (q : Asked) (t : ℕ) (F : Type 0) (a : Answer) (s' : SlotState) → SlotServes s q t F a s' → stored.SlotAudits s q t F a None s'
unaudited s q t F a s' (inl is) = inl (is.0, (is.1.0, (is.1.1, tt)))
unaudited s q t F a s' (inr is) = inr (is.0, (is.1.0, (is.1.1, refl)))

some_none : (o : Option Past) → o ≡ None → IsSome o → ⊥
some_none None is some = cc
some_none (Some e) is some = cc

pub settled_is : (s m : SlotState) → s.doubt ≡ None → SettlesSlot s m → m ≡ s
settled_is s m calm is = by s.doubt calm is
  where
    by : (o : Option Past) → o ≡ None → SettlesDoubtBy o s m → m ≡ s
    by None calm is = is
    by (Some e) calm is = absurd (some_none (Some e) calm refl)

module _ (F : Type 0) (never : F → ⊥) (s s' : SlotState) (q : Asked) (t : ℕ) (calm : s.doubt ≡ None) where
  served_by : {E : Type 0} (a : Answer) (r : Result Reply E) → ServesBy s q t F a s' → SaysReply a r → IfOk r (λ reply. IsServed s q t s.to reply s') × OnErr r (s' ≡ s)
  served_by (answer.Done r) (Ok o) (inl is) told = (subst (λ (x : Reply). IsServed s q t s.to x s') (sym told) is, tt)
  served_by (answer.Done r) (Ok o) (inr (inl is)) told = absurd (never is.0)
  served_by (answer.Done r) (Ok o) (inr (inr is)) told = absurd (never is.0)
  served_by (answer.Done r) (Err e) is told = absurd told
  served_by (answer.Later r) (Ok o) is told = (subst (λ (x : Reply). IsServed s q t s.to x s') (sym told) is.0, tt)
  served_by (answer.Later r) (Err e) is told = absurd told
  served_by answer.NoMemory (Ok o) is told = absurd told
  served_by answer.NoMemory (Err e) is told = (tt, is)

  pub served_steadily : {E : Type 0} (a : Answer) (r : Result Reply E) → SlotServes s q t F a s' → SaysReply a r → IfOk r (λ reply. IsServed s q t s.to reply s') × OnErr r (s' ≡ s)
  served_steadily a r (inl is) told = served_by a r (subst (λ (m : SlotState). ServesBy m q t F a s') (settled_is s is.0 calm is.1.0) is.1.1) told
  served_steadily a r (inr is) told = absurd (some_none s.doubt calm is.0)

  -- the same with an entry of the audit book
  pub audited_steadily : {E : Type 0} (a : Answer) (o : Option AuditEntry) (r : Result Reply E) → stored.SlotAudits s q t F a o s' → SaysReply a r
      → IfOk r (λ reply. IsServed s q t s.to reply s') × OnErr r (s' ≡ s)
  audited_steadily a o r is told = served_steadily a r (audits_serve s q t F a o s' is) told

  entry_is : (a : Answer) (o : Option AuditEntry) → stored.Audits s q t a o → AuditsInSlot s q t o
  entry_is a None is = tt
  entry_is a (Some e) is = record { names = is.names; value = is.value }

  -- the entry is of the slot as it was
  pub entry_steadily : (a : Answer) (o : Option AuditEntry) → stored.SlotAudits s q t F a o s' → AuditsInSlot s q t o
  entry_steadily a o (inl is) = entry_is a o (subst (λ (m : SlotState). stored.Audits m q t a o) (settled_is s is.0 calm is.1.0) is.1.1.1)
  entry_steadily a o (inr is) = absurd (some_none s.doubt calm is.0)

-- a slot without a doubt that is cut
pub cut_steadily : (upper : SlotState) (s s' : SlotState) (middle : Key) → s.doubt ≡ None → CutsSettled (Ok upper) s middle s' → (s' ≡ lower_half s middle) × (upper ≡ upper_half s middle)
cut_steadily upper s s' middle calm is =
    let same = settled_is s is.0 calm is.1.0 in
    (is.1.1.0 ∙ ap (λ (m : SlotState). lower_half m middle) same, is.1.1.1 ∙ ap (λ (m : SlotState). upper_half m middle) same)

-- a step that failed, before or after it settled the doubt
pub failed : (s s' : SlotState) → s.doubt ≡ None → SettlesSlot s s' ⊎ (IsSome s.doubt × (s' ≡ s)) → s' ≡ s
failed s s' calm (inl is) = settled_is s s' calm is
failed s s' calm (inr is) = is.1
