-- Rounds of writing that follow each other, and books in turn.
use Rattle.std.proofs.Common.{◌≡◌, ◌∙◌, ◌≤◌, ℕ, ◌+◌, List, [], ◌∷◌, ◌++◌, Option, length, length-append, inl, inr, refl, sym, ap, subst, arith}
use Rattle.std.specs.Prelude.{⊤, flat_map}
use Rattle.std.proofs.lemmas.Grind.{flat_map-append}
use Rattle.std.proofs.lemmas.List.{append-nil, append_assoc}
use Rattle.policy_book.specs.Entries.{AuditEntry, Shelved}
use Rattle.audit_lines.specs.Lines.{AppendsLines, AreAt, WritesFrom, line_of}
use Rattle.audit_lines.specs.Rounds.{AreInTurn, GoesOn, IsFullBefore, MakesLines, Renews, Round, Turn, WritesBooks, WritesLines, lines_in}
use Rattle.audit_lines.proofs.WriteLemmas.{appends_joined, no_lines, writes_none}

-- ---- lines of one book

are_at_joined : (book : Shelved) (n : ℕ) (es others : List AuditEntry) → AreAt book n es → AreAt book (n + length es) others → AreAt book n (es ++ others)
are_at_joined book n [] others are more =
    let here : n + length {A = AuditEntry} [] ≡ n = omega arith in subst (λ (m : ℕ). AreAt book m others) here more
are_at_joined book n (e ∷ es) others are more =
    let next : n + length (e ∷ es) ≡ (n + 1) + length es = omega arith in
    (are.0, are_at_joined book (n + 1) es others are.1 (subst (λ (m : ℕ). AreAt book m others) next more))

-- lines that come after bytes that were written and bytes that are left
lines_after : (book : Shelved) (from at to : ℕ) (old mid new left bytes : List ℕ) → AppendsLines book from at old mid → mid ≡ bytes ++ left → AppendsLines book at to left new → AppendsLines book from to old (bytes ++ new)
lines_after book from at to old mid new left bytes (es, (are, (count, lines))) cut (others, (more, (count', lines'))) = (
  es ++ others,
  (
    are_at_joined book from es others are (subst (λ (m : ℕ). AreAt book m others) count more),
    (
      counted,
      ap (λ (l : List ℕ). bytes ++ l) lines' ∙ sym (append_assoc bytes left (flat_map line_of others))
          ∙ ap (λ (l : List ℕ). l ++ flat_map line_of others) (sym cut ∙ lines)
          ∙ append_assoc old (flat_map line_of es) (flat_map line_of others)
          ∙ ap (λ (l : List ℕ). old ++ l) (sym (flat_map-append line_of es others)),
    ),
  ),
)
  where
    counted : to ≡ from + length (es ++ others)
    counted = omega (arith, count, count', length-append es others)

-- lines that are written in two steps
lines_joined : (a b c : Option (List ℕ)) (book : Shelved) (from at to : ℕ) (x y z : List ℕ) → WritesLines a b book from at x y → WritesLines b c book at to y z → WritesLines a c book from to x z
lines_joined a b c book from at to x y z (all, (lines, (bytes, (cut, held)))) (all', (lines', (bytes', (cut', held')))) = (
  bytes ++ all',
  (
    lines_after book from at to x all all' y bytes lines cut lines',
    (
      bytes ++ bytes',
      (ap (λ (l : List ℕ). bytes ++ l) cut' ∙ sym (append_assoc bytes bytes' z), appends_joined a b c bytes bytes' held held'),
    ),
  ),
)

-- ---- rounds

-- nothing was made and nothing was written
pub stays_on : (held : Option (List ℕ)) (x : Round) → GoesOn held held x x
stays_on held x = (refl, (x.left, (no_lines x.book x.next x.left, writes_none held x.left)))

-- two steps are one
pub goes_on : (a b c : Option (List ℕ)) (x y z : Round) → GoesOn a b x y → GoesOn b c y z → GoesOn a c x z
goes_on a b c x y z (one, first) (two, second) = (
  two ∙ one,
  lines_joined a b c x.book x.next y.next z.next x.left y.left z.left first
      (subst (λ (book : Shelved). WritesLines b c book y.next z.next y.left z.left) one second),
)

-- of the lines that were made the first bytes are written
pub made_and_written : (held held' : Option (List ℕ)) (x y made : Round) (left : List ℕ) → MakesLines x y → made ≡ y → WritesFrom held held' made.left left → GoesOn held held' x (record made { left = left })
made_and_written held held' x y made left makes same wrote =
    let lines : MakesLines x made = subst (λ (r : Round). MakesLines x r) (sym same) makes in
    (lines.0, (made.left, (lines.1, wrote)))

-- ---- books in turn

-- the book has these entries, and it may have no more
abbrev pub IsFull : Turn → Type 0
IsFull turn = AreAt turn.book 0 turn.entries × (turn.book.limit ≤ length turn.entries)

abbrev pub AreFull : List Turn → Type 0
AreFull [] = ⊤
AreFull (turn ∷ others) = IsFull turn × AreFull others

full_more : (turns : List Turn) (turn : Turn) → AreFull turns → IsFull turn → AreFull (turns ++ turn ∷ [])
full_more [] turn full is = (is, tt)
full_more (t ∷ ts) turn (one, full) is = (one, full_more ts turn full is)

full_before : (others : List Turn) (turn : Turn) → IsFull turn → IsFullBefore others turn
full_before [] turn is = tt
full_before (t ∷ ts) turn is = is.1

in_turn : (turns : List Turn) (turn : Turn) → AreFull turns → AreAt turn.book 0 turn.entries → AreInTurn (turns ++ turn ∷ [])
in_turn [] turn full are = (are, (tt, tt))
in_turn (t ∷ ts) turn (one, full) are = (one.0, (full_before (ts ++ turn ∷ []) t one, in_turn ts turn full are))

lines_in_more : (turns : List Turn) (turn : Turn) → lines_in (turns ++ turn ∷ []) ≡ lines_in turns ++ flat_map line_of turn.entries
lines_in_more turns turn =
    flat_map-append (λ (t : Turn). flat_map line_of t.entries) turns (turn ∷ [])
    ∙ ap (λ (l : List ℕ). lines_in turns ++ l) (append-nil (flat_map line_of turn.entries))

-- the lines of full books were made, and those of the entries that this book has up to the next one; the first of these bytes were written, and
-- the others are left
abbrev pub HasWritten : Option (List ℕ) → Option (List ℕ) → Round → Type 0
HasWritten held held' now = (before : List Turn) × (AreFull before × WritesLines held held' now.book 0 now.next (lines_in before) now.left)

-- no line yet
pub begun : (held : Option (List ℕ)) (now : Round) → now.next ≡ 0 → now.left ≡ [] → HasWritten held held now
begun held now next left = (
  [],
  (
    tt,
    (
      [],
      (
        subst (λ (n : ℕ). AppendsLines now.book 0 n [] []) (sym next) (no_lines now.book 0 []),
        subst (λ (l : List ℕ). WritesFrom held held [] l) (sym left) (writes_none held []),
      ),
    ),
  ),
)

-- one round more
pub written_on : (a b c : Option (List ℕ)) (x y : Round) → HasWritten a b x → GoesOn b c x y → HasWritten a c y
written_on a b c x y (before, (full, wrote)) (same, more) = (
  before,
  (
    full,
    subst (λ (book : Shelved). WritesLines a c book 0 y.next (lines_in before) y.left) (sym same)
        (lines_joined a b c x.book 0 x.next y.next (lines_in before) x.left y.left wrote more),
  ),
)

-- a book begins after this one
pub renewed : (a b : Option (List ℕ)) (x y : Round) → HasWritten a b x → Renews x y → HasWritten a b y
renewed a b x y has (inl same) = subst (λ (r : Round). HasWritten a b r) (sym same) has
renewed a b x y (before, (full, (all, ((es, (are, (count, lines))), wrote)))) (inr (limit, (next, left))) =
    let turn : Turn = record { book = x.book; entries = es } in
    let whole : x.book.limit ≤ length es = omega (arith, count, limit) in
    let same : all ≡ lines_in (before ++ turn ∷ []) = lines ∙ sym (lines_in_more before turn) in (
      before ++ turn ∷ [],
      (
        full_more before turn full (are, whole),
        (
          lines_in (before ++ turn ∷ []),
          (
            subst (λ (n : ℕ). AppendsLines y.book 0 n (lines_in (before ++ turn ∷ [])) (lines_in (before ++ turn ∷ []))) (sym next)
                (no_lines y.book 0 (lines_in (before ++ turn ∷ []))),
            subst (λ (l : List ℕ). WritesFrom a b (lines_in (before ++ turn ∷ [])) l) (sym left)
                (subst (λ (l : List ℕ). WritesFrom a b l x.left) same wrote),
          ),
        ),
      ),
    )

-- in all rounds together the lines of books in turn were written
pub written_in_turn : (a b : Option (List ℕ)) (x : Round) → HasWritten a b x → WritesBooks a b
written_in_turn a b x (before, (full, (all, ((es, (are, (count, lines))), wrote)))) =
    let turn : Turn = record { book = x.book; entries = es } in (
      before ++ turn ∷ [],
      x.left,
      (
        in_turn before turn full are,
        subst (λ (l : List ℕ). WritesFrom a b l x.left) (lines ∙ sym (lines_in_more before turn)) wrote,
      ),
    )

-- no book was there
pub nothing_written : (a : Option (List ℕ)) → WritesBooks a a
nothing_written a = ([], [], (tt, writes_none a []))
