-- What the program's words ask for, and what was done for these words.
use Rattle.std.proofs.Common.{◌≡◌, ◌≢◌, ◌⊎◌, ◌≤◌, ℕ, List, length, IfSome, Result, Ok, Err, IsTrue, IsFalse, inl, inr, decimal, refl, sym, ◌∙◌}
use Rattle.access_rules.specs.declared.keys.Keys.{Keys}
use Rattle.http_front.specs.declared.counted.Input.TheVariants as inputs
use Rattle.http_front.specs.declared.counted.Output.TheVariants as outputs
use Rattle.http_front.specs.declared.end.End.{End}
use Rattle.http_front.specs.declared.end.FrontFault.{FrontFault}
use Rattle.http_front.specs.declared.end.FrontFault.TheVariants as faults
use Rattle.http_front.specs.Connections.{ConnectionState}
use Rattle.http_front.specs.Conversations.{LeavesRun}
use Rattle.hmac_sign.specs.Signature.{base64_of}
use Rattle.stamp_main.specs.declared.ending.Ending.{Ending}
use Rattle.stamp_main.specs.declared.ending.Ending.TheVariants.{Done, Usage, ReadFault, WriteFault, TurnsUsedUp, ListenerFault, NoMemory}
use Rattle.stamp_main.specs.Ending.{ends_serving, has_written, is_answered, is_fault, run_ending}
use Rattle.stamp_main.specs.Replays.{IsReplay, HasReplayed, HasEndedByWrite, HasEndedOutOfMemory, replay_line}
use Rattle.stamp_main.specs.Runs.{IsCommand, Outcome}
use Rattle.stamp_main.specs.Serving.{IsServe, HasListened, serve_line}
use Rattle.stamp_main.specs.Signing.{IsSign, HasSigned, sign_line}

-- ---- what the words ask for

-- words of `sign` whose key is bad ask for nothing
unasked_sign : (words : List (List ℕ)) (text : List ℕ) → words ≡ sign_line text → ¬ IsSign words → ¬ IsCommand words
unasked_sign words text same none (inl asked) = none asked
unasked_sign words text same none (inr (inl (time, keys, asked))) = let both = sym same ∙ asked.line in absurd (cc)
unasked_sign words text same none (inr (inr (address, workers, keys, asked))) = let both = sym same ∙ asked.line in absurd (cc)

-- words of `replay` that are bad ask for nothing
unasked_replay : (words : List (List ℕ)) (moment account first second : List ℕ) → words ≡ replay_line moment account first second
    → ¬ IsReplay words → ¬ IsCommand words
unasked_replay words moment account first second same none (inl (key, asked)) = let both = sym same ∙ asked.1 in absurd (cc)
unasked_replay words moment account first second same none (inr (inl asked)) = none asked
unasked_replay words moment account first second same none (inr (inr (address, workers, keys, asked))) =
    let both = sym same ∙ asked.line in absurd (cc)

-- words of `serve` that are bad ask for nothing
unasked_serve : (words : List (List ℕ)) (address workers account first second : List ℕ) → words ≡ serve_line address workers account first second
    → ¬ IsServe words → ¬ IsCommand words
unasked_serve words address workers account first second same none (inl (key, asked)) = let both = sym same ∙ asked.1 in absurd (cc)
unasked_serve words address workers account first second same none (inr (inl (time, keys, asked))) =
    let both = sym same ∙ asked.line in absurd (cc)
unasked_serve words address workers account first second same none (inr (inr asked)) = none asked

-- words that are not the words of a command ask for nothing
pub unasked_none : (words : List (List ℕ)) → ((text : List ℕ) → sign_line text ≢ words)
    → ((moment account first second : List ℕ) → replay_line moment account first second ≢ words)
    → ((address workers account first second : List ℕ) → serve_line address workers account first second ≢ words) → ¬ IsCommand words
unasked_none words sign replay serve (inl (key, asked)) = sign (base64_of key) (sym asked.1)
unasked_none words sign replay serve (inr (inl (time, keys, asked))) =
    replay asked.moment keys.account (base64_of keys.first) (base64_of keys.second) (sym asked.line)
unasked_none words sign replay serve (inr (inr (address, workers, keys, asked))) =
    serve address (decimal workers) keys.account (base64_of keys.first) (base64_of keys.second) (sym asked.line)

-- the ending of a failed write is that of a run that ended by it
pub ending_write : {T : Type 0} (result : Result T FrontFault) (ending : Ending) → ending ≡ run_ending result → ending ≡ WriteFault → result ≡ Err faults.Write
ending_write (Ok x) ending is e = absurd (let both = sym is ∙ e in cc)
ending_write (Err faults.Read) ending is e = absurd (let both = sym is ∙ e in cc)
ending_write (Err faults.Write) ending is e = refl
ending_write (Err faults.Turns) ending is e = absurd (let both = sym is ∙ e in cc)
ending_write (Err faults.NoMemory) ending is e = absurd (let both = sym is ∙ e in cc)

-- ---- what was done for the words

module _ (words : List (List ℕ)) (from to : ConnectionState) where
  -- memory ran out before or while an input was signed
  sign_starved : (to ≡ from) ⊎ IsSign words → to.writer ≡ from.writer → Outcome words from to NoMemory
  sign_starved (inl untouched) unwritten = inl untouched
  sign_starved (inr asked) unwritten = inr (inl (asked, unwritten))

  -- the outcome for words of `sign` follows from the clauses of `run_sign`
  pub sign_outcome : (text : List ℕ) (ending : Ending) → words ≡ sign_line text
      → (IsTrue (has_written ending) → HasSigned words from to)
      → (ending ≡ Done → to.writer.output ≡ outputs.Flushed)
      → (ending ≡ WriteFault → to.writer.output ≡ outputs.Failed)
      → (IsFalse (has_written ending) → to.writer ≡ from.writer)
      → (ending ≡ ReadFault → to.reader.input ≡ inputs.Failed)
      → (ending ≡ TurnsUsedUp → (to.reader.turns ≡ 0) × IfSome from.reader.left (λ input. from.reader.turns ≤ length input))
      → (IsTrue (is_fault ending) → IsSign words)
      → (ending ≡ NoMemory → (to ≡ from) ⊎ IsSign words)
      → (ending ≡ Usage → ¬ IsSign words)
      → (ending ≡ Usage → to ≡ from)
      → ending ≢ ListenerFault
      → Outcome words from to ending
  sign_outcome text Done same signed flushed broken unwritten failed used_up asked starved refused unread unserved = (flushed refl, inl (signed refl))
  sign_outcome text Usage same signed flushed broken unwritten failed used_up asked starved refused unread unserved =
      (unasked_sign words text same (refused refl), unread refl)
  sign_outcome text ReadFault same signed flushed broken unwritten failed used_up asked starved refused unread unserved =
      inl ((asked refl, unwritten refl), failed refl)
  sign_outcome text WriteFault same signed flushed broken unwritten failed used_up asked starved refused unread unserved = (broken refl, inl (signed refl))
  sign_outcome text TurnsUsedUp same signed flushed broken unwritten failed used_up asked starved refused unread unserved =
      ((used_up refl).0, inl ((asked refl, unwritten refl), (used_up refl).1))
  sign_outcome text ListenerFault same signed flushed broken unwritten failed used_up asked starved refused unread unserved = absurd (unserved refl)
  sign_outcome text NoMemory same signed flushed broken unwritten failed used_up asked starved refused unread unserved = sign_starved (starved refl) (unwritten refl)

  -- memory ran out before or while an input was replayed
  replay_starved : (to ≡ from) ⊎ HasEndedOutOfMemory words from to → Outcome words from to NoMemory
  replay_starved (inl untouched) = inl untouched
  replay_starved (inr starved) = inr (inr (inl starved))

  turns_used : (time : ℕ) (keys : Keys) (result : Result End FrontFault) → TurnsUsedUp ≡ run_ending result → LeavesRun result to → to.reader.turns ≡ 0
  turns_used time keys (Ok end) is left = absurd (cc)
  turns_used time keys (Err faults.Read) is left = absurd (cc)
  turns_used time keys (Err faults.Write) is left = absurd (cc)
  turns_used time keys (Err faults.Turns) is left = left.0
  turns_used time keys (Err faults.NoMemory) is left = absurd (cc)

  replay_used : HasReplayed words TurnsUsedUp from to → to.reader.turns ≡ 0
  replay_used (time, keys, asks, result, is, received, left, whole) = turns_used time keys result is left

  broken_output : HasEndedByWrite words from to → to.writer.output ≡ outputs.Failed
  broken_output (time, keys, asks, written, failed) = failed

  -- the outcome for words of `replay` follows from the clauses of `run_replay`
  pub replay_outcome : (moment account first second : List ℕ) (ending : Ending) → words ≡ replay_line moment account first second
      → (IsTrue (is_answered ending) → HasReplayed words ending from to)
      → (IsTrue (is_answered ending) → to.writer.output ≡ outputs.Flushed)
      → (ending ≡ NoMemory → (to ≡ from) ⊎ HasEndedOutOfMemory words from to)
      → (ending ≡ WriteFault → HasEndedByWrite words from to)
      → (ending ≡ Usage → ¬ IsReplay words)
      → (ending ≡ Usage → to ≡ from)
      → ending ≢ ListenerFault
      → Outcome words from to ending
  replay_outcome moment account first second Done same replayed flushed starved broken refused untouched unserved = (flushed refl, inr (replayed refl))
  replay_outcome moment account first second Usage same replayed flushed starved broken refused untouched unserved =
      (unasked_replay words moment account first second same (refused refl), untouched refl)
  replay_outcome moment account first second ReadFault same replayed flushed starved broken refused untouched unserved = inr (replayed refl)
  replay_outcome moment account first second WriteFault same replayed flushed starved broken refused untouched unserved =
      (broken_output (broken refl), inr (inl (broken refl)))
  replay_outcome moment account first second TurnsUsedUp same replayed flushed starved broken refused untouched unserved =
      (replay_used (replayed refl), inr (replayed refl))
  replay_outcome moment account first second ListenerFault same replayed flushed starved broken refused untouched unserved = absurd (unserved refl)
  replay_outcome moment account first second NoMemory same replayed flushed starved broken refused untouched unserved = replay_starved (starved refl)

  -- memory ran out before the line of an address was written, or after it
  serve_starved : to.reader ≡ from.reader → (to ≡ from) ⊎ HasListened words from.writer to.writer → Outcome words from to NoMemory
  serve_starved unread (inl untouched) = inl untouched
  serve_starved unread (inr listened) = inr (inr (inr (unread, listened)))

  -- the listener failed before the line of an address was written, or after it
  serve_unheard : to.reader ≡ from.reader → IsServe words × ((to ≡ from) ⊎ HasListened words from.writer to.writer) → Outcome words from to ListenerFault
  serve_unheard unread (asked, inl untouched) = (asked, inl untouched)
  serve_unheard unread (asked, inr listened) = (asked, inr (unread, listened))

  -- the outcome for words of `serve` follows from the clauses of `run_serve`, which reads nothing
  pub serve_outcome : (address workers account first second : List ℕ) (ending : Ending) → words ≡ serve_line address workers account first second
      → to.reader ≡ from.reader
      → (ending ≡ Usage → ¬ IsServe words)
      → (ending ≡ Usage → to ≡ from)
      → (ending ≡ ListenerFault → IsServe words × ((to ≡ from) ⊎ HasListened words from.writer to.writer))
      → (ending ≡ NoMemory → (to ≡ from) ⊎ HasListened words from.writer to.writer)
      → (ending ≡ WriteFault → HasListened words from.writer to.writer × (to.writer.output ≡ outputs.Failed))
      → IsTrue (ends_serving ending)
      → Outcome words from to ending
  serve_outcome address workers account first second Usage same unread refused untouched listened starved broken ended =
      (unasked_serve words address workers account first second same (refused refl), untouched refl)
  serve_outcome address workers account first second ListenerFault same unread refused untouched listened starved broken ended =
      serve_unheard unread (listened refl)
  serve_outcome address workers account first second WriteFault same unread refused untouched listened starved broken ended =
      ((broken refl).1, inr (inr (unread, (broken refl).0)))
  serve_outcome address workers account first second NoMemory same unread refused untouched listened starved broken ended = serve_starved unread (starved refl)
  serve_outcome address workers account first second Done same unread refused untouched listened starved broken ended = cc
  serve_outcome address workers account first second ReadFault same unread refused untouched listened starved broken ended = cc
  serve_outcome address workers account first second TurnsUsedUp same unread refused untouched listened starved broken ended = cc
