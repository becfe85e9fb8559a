-- A slot by longer key pairs.
use Rattle.std.proofs.Common.{◌≡◌, ◌∙◌, arith, ℕ, List, Option, Some, None, sym, ap, subst}
use Rattle.stamp_types.specs.declared.past.Past.{Past}
use Rattle.stamp_types.specs.Changes.{KeyedAct}
use Rattle.stamp_types.specs.World.{Part}
use Rattle.access_rules.specs.declared.keys.Keys.{Keys}
use Rattle.range_rows.specs.RequestChanges.{change_of}
use Rattle.range_rows.specs.SentContent.{sizes}
use Rattle.stamp_model.specs.Refusals.{refusal}
use Rattle.stored_rows.specs.States.{Stored}
use Rattle.slot_state.specs.HistoryMaps.{Histories}
use Rattle.slot_state.specs.NextPairs.{AreFront, IsNext, ReplaysBy, with_next}
use Rattle.slot_state.specs.Pairs.{AreNumbered, Pairs, pairs_at}
use Rattle.slot_state.specs.Slots.{SlotState}
use Rattle.slot_state.proofs.NextLemmas.{epoch_longer, latest_longer, legal_longer, next_are_longer, pair_longer, replayed_longer}
use Rattle.stored_slot.specs.Meanings.{AreOfStreams, AreReplays, HasDoubt, MakesChange, slot_with}

module _ (pairs longer : Pairs) (h : Histories) (s : Stored) (all : AreNumbered longer) (front : AreFront pairs longer) (are : AreReplays pairs h s) where
  longer_replays : AreReplays longer h s
  longer_replays = record {
    numbered = all;
    bytes = λ key covered. are.bytes key covered ∙ sym (replayed_longer pairs longer are.numbered all front h are.latest key);
    legal = λ key. legal_longer pairs longer are.numbered all front h are.latest key (are.legal key);
    latest = λ key. latest_longer pairs longer are.numbered all front h are.latest key;
  }

  -- a change in doubt is judged by the pair of its epoch
  longer_makes : (e : Past) (c : KeyedAct) → MakesChange pairs h s e c → MakesChange longer h s e c
  longer_makes e c makes =
      let same = replayed_longer pairs longer are.numbered all front h are.latest e.request.ask.key in
      let own = pair_longer pairs longer are.numbered all front e.request.ask.key.account e.epoch makes.known in record {
        makes = ap (λ (p : Part (List ℕ)). change_of (sizes p) e.request e.moment) same ∙ makes.makes;
        allowed = (λ i. refusal (own i) (sizes (same i)) e.request e.moment) ∙ makes.allowed;
        covered = makes.covered;
        known = omega (arith, makes.known, epoch_longer pairs longer are.numbered all front e.request.ask.key.account);
        last = makes.last;
      }

  longer_doubt : (d : Option Past) → HasDoubt pairs h s d → HasDoubt longer h s d
  longer_doubt None sure = sure
  longer_doubt (Some e) doubted = record { change = doubted.change; makes = longer_makes e doubted.change doubted.makes; tried = doubted.tried }

-- the slot keeps what is true of it
pub longer_kept : (pairs longer : Pairs) (h : Histories) (s : Stored) (d : Option Past) (v : SlotState) → slot_with pairs h s d ≡ v → AreNumbered longer → AreFront v.pairs longer → AreOfStreams pairs h s d
    → AreOfStreams longer h s d
longer_kept pairs longer h s d v seen all front are =
    let own : AreFront pairs longer = subst (λ (x : SlotState). AreFront x.pairs longer) (sym seen) front in record {
      replays = longer_replays pairs longer h s all own are.replays;
      doubted = longer_doubt pairs longer h s all own are.replays d are.doubted;
    }

-- and each of its containers is the same
pub longer_same : (pairs longer : Pairs) (h : Histories) (s : Stored) (d : Option Past) (v : SlotState) → slot_with pairs h s d ≡ v → AreNumbered longer → AreFront v.pairs longer → AreOfStreams pairs h s d
    → ReplaysBy longer v
longer_same pairs longer h s d v seen all front are =
    subst (λ (x : SlotState). AreFront x.pairs longer → ReplaysBy longer x) seen (λ own key. replayed_longer pairs longer are.replays.numbered all own h are.replays.latest key) front

-- pairs with the next pair of an account
pub next_is_longer : (pairs longer : Pairs) (account : List ℕ) (next : Keys) → IsNext (pairs_at pairs account) next → longer ≡ with_next pairs account next → AreFront pairs longer
next_is_longer pairs longer account next is same = subst (AreFront pairs) (sym same) (next_are_longer pairs account next is)
