-- A slot whose containers are those that its history leaves, and that serves a request.
use Rattle.std.proofs.Common.{◌≡◌, ℕ, ◌&&◌, Bool, true, false, cond, List, [], ◌∷◌, ◌++◌, map, Option, Some, None, sym, ap, ◌∙◌, refl, subst}
use Rattle.std.specs.Ordering.{is_le}
use Rattle.std.specs.Prelude.{length}
use Rattle.std.specs.declared.cmp.Ordering.{Ordering}
use Rattle.std.specs.declared.cmp.Ordering.TheVariants.{Less, Equal, Greater}
use Rattle.std.proofs.lemmas.Bool.{and_parts}
use Rattle.std.proofs.lemmas.List.{length-map}
use Rattle.stamp_values.specs.Operations.{names_container, writes}
use Rattle.stamp_values.specs.Order.{key_cmp, keys_exact, keys_total}
use Rattle.stamp_values.specs.Trees.{is_from}
use Rattle.stamp_values.specs.declared.key.Key.{Key}
use Rattle.stamp_types.proofs.WorldLemmas.{equal_if_is_eq}
use Rattle.stamp_types.specs.declared.past.Past.{Past}
use Rattle.stamp_types.specs.declared.reply.Reply.{Reply}
use Rattle.stamp_types.specs.Requests.{Asked, IsAsk}
use Rattle.stamp_types.specs.World.{World, part_at}
use Rattle.access_rules.specs.Rules.{way_of}
use Rattle.policy_book.specs.Entries.{AuditEntry, audit_entry_of}
use Rattle.policy_book.specs.Judgements.{Revised}
use Rattle.row_trees.specs.Access.{acl_of}
use Rattle.stamp_model.specs.AcceptedRequests.{accepted_at, is_on}
use Rattle.stamp_model.specs.Effects.{effect}
use Rattle.stamp_model.specs.Runs.{Timed, reply_to_one}
use Rattle.stamp_model.specs.SeenContainers.{is_between, is_in_account, is_seen, is_under, routed}
use Rattle.stamp_model.proofs.ReadLemmas.{effect-read}
use Rattle.stamp_model.proofs.SeenContainerLemmas.{lists_containers}
use Rattle.slot_state.specs.HistoryMaps.{Histories, history_at}
use Rattle.slot_state.specs.Pairs.{current_at}
use Rattle.slot_state.specs.Slots as slots
use Rattle.slot_state.specs.Slots.{SlotState, covers, replayed_at, slot_after}
use Rattle.slot_state.proofs.RangeLemmas.{histories_after-listing}
use Rattle.slot_state.proofs.StepLemmas.{effect_replayed}
use Rattle.served_history.specs.declared.entry.Entry.{Entry}
use Rattle.served_history.specs.declared.entry.Entry.TheVariants.{Served}
use Rattle.served_history.specs.Fronts.{front_at}
use Rattle.served_history.specs.Growth.{IsEntered, SlotFront}
use Rattle.served_history.specs.Histories.{entry_after, timed_at, world_left, HasStayed, IsOwn, IsServed}
use Rattle.served_history.proofs.AfterLemmas.{entry_follows}
use Rattle.served_history.proofs.FrontLemmas.{front-append, front_stays}
use Rattle.served_history.proofs.KeyLemmas.{bound-one, owner-one}
use Rattle.served_history.proofs.PairLemmas.{pairs-one}
use Rattle.served_history.proofs.ReplyLemmas.{entered_is_served, entry_stays, timed_stays}
use Rattle.served_history.proofs.StayLemmas.{routed_own, stays, world_left-append}
use Rattle.served_slots.specs.Audits.{AuditsInSlot, AuditsLast, IsAuditOf, IsSlotAudit, revision_at}
use Rattle.served_slots.specs.Slots.{IsLeftBy, past_of, timed_in}
use Rattle.served_slots.proofs.KeptLemmas.{kept_after}

-- a ≤ b and b ≤ c give a ≤ c
pub from_from : (a b c : Key) → is_from a b ≡ true → is_from b c ≡ true → is_from a c ≡ true
from_from a b c e f = by (key_cmp a b) refl e
  where
    by_less : (r : Ordering) → key_cmp b c ≡ r → is_le r ≡ true → key_cmp a b ≡ Less → is_from a c ≡ true
    by_less Less is le less = ap is_le (keys_total.trans a b c less is)
    by_less Equal is le less = subst (λ (k : Key). is_from a k ≡ true) (keys_exact b c is) e
    by_less Greater is le less = cc

    by : (r : Ordering) → key_cmp a b ≡ r → is_le r ≡ true → is_from a c ≡ true
    by Less is le = by_less (key_cmp b c) refl f is
    by Equal is le = subst (λ (k : Key). is_from k c ≡ true) (sym (keys_exact a b is)) f
    by Greater is le = cc

-- what judges a request in a slot
abbrev revision_in : SlotState → Asked → Revised
revision_in s q = record { acl = acl_of (replayed_at s.pairs s.histories q.ask.key); keys = current_at s.pairs q.ask.key.account }

module _ (front : SlotFront) (to : Option Key) (s : SlotState) (left : IsLeftBy front to s) (q : Asked) (t : ℕ) (covered : covers s (routed q) ≡ true) where
  -- the request is served as the history says
  pub timed_is : timed_in s to q t ≡ timed_at front.log q t
  timed_is =
      let pairs = sym (left.pairs (routed q) covered) in
      let bound = sym (left.bound (routed q) covered ∙ left.ends) in
      λ i. record { request = q; moment = t; keys = current_at (pairs i) q.ask.key.account; bound = bound i }

  -- so the slot may enter it
  pub may_enter : IsOwn front.log (Served front.slot (timed_in s to q t))
  may_enter = (left.has (routed q) covered, timed_is)

  -- the range has each container that the request sees
  seen_covered : (key : Key) → is_seen q s.to key ≡ true → covers s key ≡ true
  seen_covered key seen = by (names_container q.ask.op) refl
    where
      within : (covers s (routed q) ≡ true) → (is_from s.from (routed q) ≡ true) × (is_under s.to (routed q) ≡ true)
      within is = and_parts (is_from s.from (routed q)) (is_under s.to (routed q)) is

      by : (b : Bool) → names_container q.ask.op ≡ b → covers s key ≡ true
      by true names =
          let on : is_on key q ≡ true = sym (ap (λ (b : Bool). cond b (is_on key q) (is_in_account key q && is_between (routed q) s.to key)) names) ∙ seen in
          ap (covers s) (keys_exact key q.ask.key (equal_if_is_eq (key_cmp key q.ask.key) on) ∙ sym (routed_own q names)) ∙ covered
      by false lists =
          let listed : (is_in_account key q && is_between (routed q) s.to key) ≡ true = sym (ap (λ (b : Bool). cond b (is_on key q) (is_in_account key q && is_between (routed q) s.to key)) lists) ∙ seen in
          let between = and_parts (is_from (routed q) key) (is_under s.to key) (and_parts (is_in_account key q) (is_between (routed q) s.to key) listed).1 in
          ap (λ (b : Bool). b && is_under s.to key) (from_from s.from (routed q) key (within covered).0 between.0) ∙ between.1

  module _ (r : Reply) (s' : SlotState) (is : slots.IsServed s q t s.to r s') where
    -- the slot keeps its key pairs
    pub timed_after : timed_in s' to q t ≡ timed_in s to q t
    timed_after = ap (λ (x : SlotState). timed_in x to q t) is.after

    pub may_enter_after : IsOwn front.log (Served front.slot (timed_in s' to q t))
    may_enter_after = subst (λ (x : Timed). IsOwn front.log (Served front.slot x)) (sym timed_after) may_enter

    -- the reply of the slot is the model's after what the slot knows
    reply_is : r ≡ reply_to_one (world_left front.log) (timed_at front.log q t)
    reply_is =
        is.reply (world_left front.log) (λ key seen. left.containers key (seen_covered key seen))
        ∙ ap (λ (o : Option Key). reply_to_one (world_left front.log) (timed_in s o q t)) left.ends
        ∙ ap (λ (x : Timed). reply_to_one (world_left front.log) x) timed_is

    module _ (known known' : List Entry) (entered : IsEntered front.slot front.log known (Served front.slot (timed_in s' to q t)) known') where
      abbrev e : Entry
      e = Served front.slot (timed_in s to q t)

      own : IsEntered front.slot front.log known e known'
      own = subst (λ (x : Timed). IsEntered front.slot front.log known (Served front.slot x) known') timed_after entered

      -- so a request that the slot served and entered is served by the history
      pub slot_serves : IsAsk q.ask → IsServed known q t r known'
      slot_serves fits =
          let has = left.has (routed q) covered in
          entered_is_served front.slot front.log known known' q t r fits has
          (subst (λ (x : Entry). IsEntered front.slot front.log known x known') (λ i. Served (sym has i) (timed_is i)) own) reply_is

      -- the entry is that of the request after the entries before it
      entry_there : e ≡ entry_after own.log q t
      entry_there =
          let has = left.has (routed q) covered in
          let now : e ≡ entry_after front.log q t = λ i. Served (sym has i) (timed_is i) in
          now ∙ sym (entry_stays front.slot front.log own.log own.slot_knew q t has)

      own_covered : names_container q.ask.op ≡ true → covers s q.ask.key ≡ true
      own_covered names = ap (covers s) (sym (routed_own q names)) ∙ covered

      -- the container of the request is there as it is in the slot
      container_there : names_container q.ask.op ≡ true → part_at (world_left own.log) q.ask.key ≡ replayed_at s.pairs s.histories q.ask.key
      container_there names = (stays front.slot q.ask.key front.log own.log own.slot_knew (left.has q.ask.key (own_covered names))).container ∙ left.containers q.ask.key (own_covered names)

      -- each container of the range has the front there that the slot knew
      front_there : (key : Key) → covers s key ≡ true → front_at own.log key ≡ front_at front.log key
      front_there key inside = front_stays front.slot key front.log own.log own.slot_knew (left.has key inside)

      -- the container of the request has as many changes there as the slot keeps of it
      count_there : names_container q.ask.op ≡ true → length (history_at s.histories q.ask.key) ≡ length (front_at own.log q.ask.key)
      count_there names =
          sym (ap (λ (es : List Past). length es) (left.histories q.ask.key (own_covered names)))
          ∙ length-map (front_at front.log q.ask.key) past_of
          ∙ sym (ap (λ (rs : List Timed). length rs) (front_there q.ask.key (own_covered names)))

      -- what judges the request in the slot is what judges it there
      judged_there : names_container q.ask.op ≡ true → revision_in s q ≡ revision_at own.log q t
      judged_there names =
          let container = sym (container_there names) in
          let timed : timed_in s to q t ≡ timed_at own.log q t = timed_is ∙ sym (timed_stays front.slot front.log own.log own.slot_knew q t (left.has (routed q) covered)) in
          λ i. record { acl = acl_of (container i); keys = (timed i).keys }

      audit_there : (a : AuditEntry) → IsSlotAudit s q t a → IsAuditOf known' q t a
      audit_there a is = record {
        before = own.log;
        enters = own.enters ∙ ap (λ (x : Entry). own.log ++ x ∷ []) entry_there;
        names = is.names;
        value = is.value ∙ (λ i. audit_entry_of q (count_there is.names i) (way_of q.ask.credential) t (judged_there is.names i));
      }

      -- so an audit entry of the slot is by what the history left before the request
      pub audits_there : (o : Option AuditEntry) → AuditsInSlot s q t o → AuditsLast known' q t o
      audits_there None is = tt
      audits_there (Some a) is = audit_there a is

      stayed : (key : Key) → covers s key ≡ true → HasStayed key (front.log ++ e ∷ []) known'
      stayed key inside = entry_follows front.slot front.log known e known' key own (left.has key inside)

      -- each container of the range after the request
      effect_is : (key : Key) → covers s key ≡ true → part_at (effect (current_at s.pairs q.ask.key.account) (world_left front.log) q t) key ≡ replayed_at s.pairs (slot_after s q t).histories key
      effect_is key inside = by (names_container q.ask.op) refl
        where
          by : (b : Bool) → names_container q.ask.op ≡ b → part_at (effect (current_at s.pairs q.ask.key.account) (world_left front.log) q t) key ≡ replayed_at s.pairs (slot_after s q t).histories key
          by true names = effect_replayed s (world_left front.log) q t left.numbered (left.containers q.ask.key (own_covered names)) key (left.containers key inside)
          by false lists =
              ap (λ (v : World (List ℕ)). part_at v key) (effect-read (current_at s.pairs q.ask.key.account) (world_left front.log) q t (ap writes (lists_containers q.ask.op lists)))
              ∙ left.containers key inside
              ∙ ap (λ (h : Histories). replayed_at s.pairs h key) (sym (histories_after-listing s.pairs s.histories q t lists))

      -- the changes that the slot keeps of each container of the range after the request
      kept_is : (key : Key) → covers s key ≡ true → map past_of (front_at known' key) ≡ history_at (slot_after s q t).histories key
      kept_is key inside =
          ap (λ (l : List Entry). map past_of (front_at l key)) own.enters
          ∙ ap (map past_of) (front-append key own.log (e ∷ []))
          ∙ ap (λ (rs : List Timed). map past_of (rs ++ accepted_at key (world_left own.log) (timed_in s to q t ∷ []))) (front_there key inside)
          ∙ kept_after s to q t key (front_at front.log key) (left.histories key inside) (world_left own.log) container_there

      left_next : IsLeftBy (record { slot = front.slot; log = known' }) to (slot_after s q t)
      left_next = record {
        first = left.first;
        has = λ key inside. (stayed key inside).slot ∙ owner-one front.log e key ∙ left.has key inside;
        ends = left.ends;
        bound = λ key inside. (stayed key inside).bound ∙ bound-one front.log e key ∙ left.bound key inside;
        pairs = λ key inside. (stayed key inside).pairs ∙ pairs-one front.log e key ∙ left.pairs key inside;
        numbered = left.numbered;
        calm = left.calm;
        histories = kept_is;
        containers = λ key inside.
            (stayed key inside).container
            ∙ ap (λ (w : World (List ℕ)). part_at w key) (world_left-append front.log (e ∷ []))
            ∙ effect_is key inside;
      }

      -- and the slot has what its history leaves then
      pub left_after : IsLeftBy (record { slot = front.slot; log = known' }) to s'
      left_after = subst (IsLeftBy (record { slot = front.slot; log = known' }) to) (sym is.after) left_next
