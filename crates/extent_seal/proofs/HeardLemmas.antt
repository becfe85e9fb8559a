-- Asks of which enough were answered, one after the other.
use Rattle.std.proofs.Common.{◌≡◌, ◌≤◌, ◌<◌, ◌⊎◌, min, ℕ, zero, suc, ◌+◌, ◌*◌, Bool, true, false, inl, inr, refl, sym, ◌∙◌, ap, arith}
use Rattle.extent_node.specs.Faults.{Calls, Counts, CountsNone, fault_unless, one_more}
use Rattle.extent_seal.specs.Counting.{AsksEach, CountsAppend, FailsEach, FailsUnless, PutsEach, asked_if, fault_if}
use Rattle.extent_seal.specs.Extents.{Closed, Open, Three}
use Rattle.extent_seal.specs.Heard.{AsksAreHeard, CanCount, TellsAsks, TellsOne}
use Rattle.extent_seal.specs.Repairs.{FirstAnswers, calls_more}
use Rattle.extent_seal.specs.Seals.{Seals}
use Rattle.extent_seal.specs.declared.open_extent.Appended.{Appended}
use Rattle.extent_seal.specs.declared.open_extent.Appended.TheVariants as appended

-- calls that follow others
more_calls : (m n x : ℕ) → calls_more (m + n) x ≡ calls_more n (calls_more m x)
unfolding calls_more
more_calls m zero x = let e : m + 0 ≡ m = omega arith in rw e refl
more_calls m (suc n) x = let e : m + suc n ≡ suc (m + n) = omega arith in rw e (ap one_more (more_calls m n x))

one_then : (answered unanswered answered' unanswered' a b c f g h : ℕ) → TellsOne answered unanswered a b f g → TellsOne answered' unanswered' b c g h → TellsOne (answered + answered') (unanswered + unanswered') a c f h
one_then answered unanswered answered' unanswered' a b c f g h p q =
    let sum : (answered + answered') + (unanswered + unanswered') ≡ (answered + unanswered) + (answered' + unanswered') = omega arith in
    (rw sum (q.0 ∙ ap (calls_more (answered' + unanswered')) p.0 ∙ sym (more_calls (answered + unanswered) (answered' + unanswered') a)), omega (arith, p.1, q.1))

-- the numbers of two lists of asks together
abbrev both : Counts → Counts → Counts
both a b = record { zero = a.zero + b.zero; one = a.one + b.one; two = a.two + b.two }

pub tells_then : (answered unanswered answered' unanswered' a b c f g h : Counts) → TellsAsks answered unanswered a b f g → TellsAsks answered' unanswered' b c g h → TellsAsks (both answered answered') (both unanswered unanswered') a c f h
tells_then answered unanswered answered' unanswered' a b c f g h p q = record {
  zero_told = one_then answered.zero unanswered.zero answered'.zero unanswered'.zero a.zero b.zero c.zero f.zero g.zero h.zero p.zero_told q.zero_told;
  one_told = one_then answered.one unanswered.one answered'.one unanswered'.one a.one b.one c.one f.one g.one h.one p.one_told q.one_told;
  two_told = one_then answered.two unanswered.two answered'.two unanswered'.two a.two b.two c.two f.two g.two h.two p.two_told q.two_told;
}

-- what is heard stays heard
pub heard_then : (a b c f g h : Calls) → AsksAreHeard a b f g → AsksAreHeard b c g h → AsksAreHeard a c f h
heard_then a b c f g h p q = record {
  answered = both p.answered q.answered;
  unanswered = both p.unanswered q.unanswered;
  told = tells_then p.answered p.unanswered q.answered q.unanswered a.asks b.asks c.asks f.asks g.asks h.asks p.told q.told;
  enough = omega (arith, p.enough, q.enough);
}

-- no ask
abbrev none : Counts
none = record { zero = 0; one = 0; two = 0 }

no_one : (a b f g : ℕ) → b ≡ a → g ≡ f → TellsOne 0 0 a b f g
unfolding calls_more
no_one a b f g p q = (p, omega (arith, q))

pub heard_unasked : (a b f g : Calls) → CountsNone a.asks b.asks → CountsNone f.asks g.asks → AsksAreHeard a b f g
heard_unasked a b f g p q = record {
  answered = none;
  unanswered = none;
  told = record {
    zero_told = no_one a.asks.zero b.asks.zero f.asks.zero g.asks.zero p.0 q.0;
    one_told = no_one a.asks.one b.asks.one f.asks.one g.asks.one p.1 q.1;
    two_told = no_one a.asks.two b.asks.two f.asks.two g.asks.two p.2 q.2;
  };
  enough = omega arith;
}

-- nothing was called
pub heard_none : (a f : Calls) → AsksAreHeard a a f f
heard_none a f = heard_unasked a a f f (refl, refl, refl) (refl, refl, refl)

-- ---- one ask of one node

-- one ask that was answered so
abbrev yes_of : Bool → ℕ
yes_of true = 1
yes_of false = 0

asked_once : (good : Bool) (a b f g : ℕ) → b ≡ one_more a → g ≡ f + fault_unless good → TellsOne (yes_of good) (fault_unless good) a b f g
unfolding calls_more one_more
asked_once true a b f g p q = (p, q)
asked_once false a b f g p q = (p, q)

-- ---- a seal that some node answered

-- each node was asked once, and some node answered
pub heard_each : (told : Three) (a b f g : Calls) → AsksEach a b → FailsUnless told f g
    → (told.zero ≡ true) ⊎ ((told.one ≡ true) ⊎ (told.two ≡ true)) → AsksAreHeard a b f g
heard_each told a b f g p q some = record {
  answered = record { zero = yes_of told.zero; one = yes_of told.one; two = yes_of told.two };
  unanswered = record { zero = fault_unless told.zero; one = fault_unless told.one; two = fault_unless told.two };
  told = record {
    zero_told = asked_once told.zero a.asks.zero b.asks.zero f.asks.zero g.asks.zero p.1.0 q.1;
    one_told = asked_once told.one a.asks.one b.asks.one f.asks.one g.asks.one p.1.1 q.2;
    two_told = asked_once told.two a.asks.two b.asks.two f.asks.two g.asks.two p.1.2 q.3;
  };
  enough = enough_of told.zero told.one told.two some;
}
  where
    enough_of : (x y z : Bool) → (x ≡ true) ⊎ ((y ≡ true) ⊎ (z ≡ true))
        → fault_unless x + fault_unless y + fault_unless z ≤ 2 * (yes_of x + yes_of y + yes_of z)
    enough_of true true true s = omega arith
    enough_of true true false s = omega arith
    enough_of true false true s = omega arith
    enough_of true false false s = omega arith
    enough_of false true true s = omega arith
    enough_of false true false s = omega arith
    enough_of false false true s = omega arith
    enough_of false false false s = absurd (grind arith)

-- an extent is sealed only if some node answered
pub heard_sealed : (e : Open) (s : Closed) (a b f g : Calls) → Seals e s → AsksEach a b → FailsUnless s.kept f g → AsksAreHeard a b f g
heard_sealed e s a b f g h p q =
    heard_each s.kept a b f g p q (elim h.smallest [ inl x ↦ inl x.0 | inr y ↦ inr (elim y [ inl x ↦ inl x.0 | inr x ↦ inr x.0 ]) ])

-- an append asks no node
pub heard_put : (r : Appended) (took : Three) (a b f g : Calls) → PutsEach a b → CountsAppend r took f g → AsksAreHeard a b f g
heard_put appended.All took a b f g p q = heard_unasked a b f g p.1 q.1
heard_put appended.Short took a b f g p q = heard_unasked a b f g p.1 q.7

-- ---- a read that some node answered

-- a node is asked if it has a copy, and answers no
asked_in_vain : (k : Bool) (a b f g : ℕ) → b ≡ asked_if k a → g ≡ f + fault_if k → TellsOne 0 (fault_if k) a b f g
unfolding calls_more
asked_in_vain true a b f g p q = (p, q)
asked_in_vain false a b f g p q = (p, q)

vain_bound : (k : Bool) → fault_if k ≤ 1
vain_bound true = omega arith
vain_bound false = omega arith

-- the nodes with a copy were asked until one answered
pub heard_first : (kept : Three) (a b f g : Calls) → FirstAnswers kept a.asks b.asks f.asks g.asks → AsksAreHeard a b f g
heard_first kept a b f g (inl p) = record {
  answered = record { zero = 1; one = 0; two = 0 };
  unanswered = none;
  told = record {
    zero_told = asked_once true a.asks.zero b.asks.zero f.asks.zero g.asks.zero p.1.0 (omega (arith, p.2.0));
    one_told = no_one a.asks.one b.asks.one f.asks.one g.asks.one p.1.1 p.2.1;
    two_told = no_one a.asks.two b.asks.two f.asks.two g.asks.two p.1.2 p.2.2;
  };
  enough = omega arith;
}
heard_first kept a b f g (inr (inl p)) = record {
  answered = record { zero = 0; one = 1; two = 0 };
  unanswered = record { zero = fault_if kept.zero; one = 0; two = 0 };
  told = record {
    zero_told = asked_in_vain kept.zero a.asks.zero b.asks.zero f.asks.zero g.asks.zero p.1.0 p.2.0;
    one_told = asked_once true a.asks.one b.asks.one f.asks.one g.asks.one p.1.1 p.2.1;
    two_told = asked_in_vain false a.asks.two b.asks.two f.asks.two g.asks.two p.1.2 p.2.2;
  };
  enough = omega (arith, vain_bound kept.zero);
}
heard_first kept a b f g (inr (inr p)) = record {
  answered = record { zero = 0; one = 0; two = 1 };
  unanswered = record { zero = fault_if kept.zero; one = fault_if kept.one; two = 0 };
  told = record {
    zero_told = asked_in_vain kept.zero a.asks.zero b.asks.zero f.asks.zero g.asks.zero p.1.0 p.2.0;
    one_told = asked_in_vain kept.one a.asks.one b.asks.one f.asks.one g.asks.one p.1.1 p.2.1;
    two_told = asked_once true a.asks.two b.asks.two f.asks.two g.asks.two p.1.2 p.2.2;
  };
  enough = omega (arith, vain_bound kept.zero, vain_bound kept.one);
}

-- ---- asks that no node answered

-- as far as a wire can count, a number of calls is added
counted_calls : (k n : ℕ) → n ≤ 340_282_366_920_938_463_463_374_607_431_768_211_455
    → calls_more k n ≡ min (n + k) 340_282_366_920_938_463_463_374_607_431_768_211_455
unfolding calls_more one_more
counted_calls zero n within = omega arith
counted_calls (suc k) n within = let before = counted_calls k n within in omega arith

-- one ask of a node that answered no: no ask was answered yes
vain_one : (answered unanswered a b f g : ℕ) → a + 1 < 340_282_366_920_938_463_463_374_607_431_768_211_455
    → TellsOne answered unanswered a b f g → b ≡ one_more a → g ≡ f + 1 → (answered ≡ 0) × (unanswered ≡ 1)
unfolding one_more
vain_one answered unanswered a b f g less told asked failed =
    let calls = counted_calls (answered + unanswered) a (omega arith) in
    (omega (arith, told.0, told.1, asked, failed, calls), omega (arith, told.1, failed))

pub not_heard : (a b f g : Calls) → CanCount a.asks → AsksEach a b → FailsEach f g → AsksAreHeard a b f g → ⊥
not_heard a b f g less asked failed heard =
    let zero_one = vain_one heard.answered.zero heard.unanswered.zero a.asks.zero b.asks.zero f.asks.zero g.asks.zero less.0 heard.told.zero_told asked.1.0 failed.1 in
    let one_one = vain_one heard.answered.one heard.unanswered.one a.asks.one b.asks.one f.asks.one g.asks.one less.1 heard.told.one_told asked.1.1 failed.2 in
    let two_one = vain_one heard.answered.two heard.unanswered.two a.asks.two b.asks.two f.asks.two g.asks.two less.2 heard.told.two_told asked.1.2 failed.3 in
    absurd (omega (arith, heard.enough, zero_one.0, zero_one.1, one_one.0, one_one.1, two_one.0, two_one.1))
