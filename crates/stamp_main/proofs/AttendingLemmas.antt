-- Bytes of an operator that come in pieces, and answers that are written in turn.
use Rattle.std.proofs.Common.{◌≡◌, ◌∙◌, ◌<◌, ◌+◌, ◌==◌, ℕ, Bool, true, false, List, [], ◌∷◌, ◌++◌, Option, length, get_or, take, drop, take-append-drop, refl, sym, ap, subst}
use Rattle.std.proofs.lemmas.List.{append-nil, append_assoc, take_more}
use Rattle.std.proofs.KnownBytes.{Appends-kept, Appends-nil, Appends-trans, Consumes-kept, Consumes-nil, Consumes-trans}
use Rattle.std.specs.Io.KnownBytes.{Appends, Consumes, Keeps}
use Rattle.served_history.specs.declared.entry.Entry.{Entry}
use Rattle.audit_lines.specs.Lines.{WritesFrom}
use Rattle.stamp_main.specs.Attending.{Attends, AttendsByte, IsAttended, ReadsLines, Writes}
use Rattle.stamp_main.specs.Line.{with_byte}

-- ---- bytes that are written

-- the first bytes were taken
pub writes_taken : (held held' : Option (List ℕ)) (n : ℕ) (bytes : List ℕ) → Appends held held' (take n bytes) → WritesFrom held held' bytes (drop n bytes)
writes_taken held held' n bytes wrote = (take n bytes, (sym (take-append-drop n bytes), wrote))

-- a writer that failed has no more
pub appends_kept : (held held' : Option (List ℕ)) → Keeps held held' → Appends held held' []
appends_kept held held' kept = Appends-kept held held held' [] (Appends-nil held) kept

-- if the writer took all, all was written
pub all_written : (held held' : Option (List ℕ)) (bytes : List ℕ) (all : Bool) → all ≡ true → Writes held held' bytes all → Appends held held' bytes
all_written held held' bytes all full (left, ((front, (parts, wrote)), whole)) =
    let none : left ≡ [] = whole full in
    subst (λ (l : List ℕ). Appends held held' l) (sym (parts ∙ ap (λ (l : List ℕ). front ++ l) none ∙ append-nil front)) wrote

-- all was written
pub writes_all : (held held' : Option (List ℕ)) (bytes : List ℕ) (all : Bool) → Appends held held' bytes → Writes held held' bytes all
writes_all held held' bytes all wrote = ([], ((bytes, (sym (append-nil bytes), wrote)), λ _. refl))

-- the writer did not take all, and other bytes would have come after these
pub writes_before : (held held' : Option (List ℕ)) (bytes others : List ℕ) (all : Bool) → all ≡ false → Writes held held' bytes all → Writes held held' (bytes ++ others) false
writes_before held held' bytes others all none (left, ((front, (parts, wrote)), whole)) =
    (left ++ others, ((front, (ap (λ (l : List ℕ). l ++ others) parts ∙ append_assoc front left others, wrote)), λ is. cc))

-- bytes that come after others
pub writes_after : (a b c : Option (List ℕ)) (bytes others : List ℕ) (all : Bool) → Appends a b bytes → Writes b c others all → Writes a c (bytes ++ others) all
writes_after a b c bytes others all wrote (left, ((front, (parts, more)), whole)) =
    (left, ((bytes ++ front, (ap (λ (l : List ℕ). bytes ++ l) parts ∙ sym (append_assoc bytes front left), Appends-trans a b c bytes front wrote more)), whole))

-- ---- bytes that are attended

attends_joined : (account : List ℕ) (known known1 known2 : List Entry) (line line1 line2 : Option (List ℕ)) (bytes others told told' : List ℕ)
    → Attends account known line bytes told known1 line1 → Attends account known1 line1 others told' known2 line2 → Attends account known line (bytes ++ others) (told ++ told') known2 line2
attends_joined account known known1 known2 line line1 line2 [] others told told' (none, (same, begun)) more =
    subst (λ (l : List ℕ). Attends account known line others (l ++ told') known2 line2) (sym none)
    (subst (λ (k : List Entry). Attends account k line others told' known2 line2) same
    (subst (λ (l : Option (List ℕ)). Attends account known1 l others told' known2 line2) begun more))
attends_joined account known known1 known2 line line1 line2 (byte ∷ bytes) others told told' (k, l, first, rest, (is, (one, attends))) more = (
  k,
  l,
  first,
  rest ++ told',
  (
    ap (λ (t : List ℕ). t ++ told') is ∙ append_assoc first rest told',
    (one, attends_joined account k known1 known2 l line1 line2 bytes others rest told' attends more),
  ),
)

attends_one : (account : List ℕ) (known known' : List Entry) (line line' : Option (List ℕ)) (byte : ℕ) (told : List ℕ)
    → AttendsByte (byte == 10) account known line byte told known' line' → Attends account known line (byte ∷ []) told known' line'
attends_one account known known' line line' byte told one = (known', line', told, [], (sym (append-nil told), (one, (refl, (refl, refl)))))

-- the bytes were attended, and all that was told for them was written
abbrev pub HasAttended : List ℕ → List Entry → Option (List ℕ) → List ℕ → Option (List ℕ) → Option (List ℕ) → List Entry → Option (List ℕ) → Type 0
HasAttended account known line bytes held held' known' line' = (told : List ℕ) × (Attends account known line bytes told known' line' × Appends held held' told)

-- what came of one byte, as far as it was written
abbrev pub TakesByte : List ℕ → List Entry → Option (List ℕ) → ℕ → Option (List ℕ) → Option (List ℕ) → Bool → List Entry → Option (List ℕ) → Type 0
TakesByte account known line byte held held' all known' line' = (told : List ℕ) × (AttendsByte (byte == 10) account known line byte told known' line' × Writes held held' told all)

-- a byte that is no line feed
pub takes_other : (account : List ℕ) (known : List Entry) (line line' : Option (List ℕ)) (byte : ℕ) (held : Option (List ℕ)) (all : Bool) → (byte == 10) ≡ false → line' ≡ with_byte line byte
    → TakesByte account known line byte held held all known line'
takes_other account known line line' byte held all is pushed =
    ([], (subst (λ (b : Bool). AttendsByte b account known line byte [] known line') (sym is) (refl, (refl, pushed)), writes_all held held [] all (Appends-nil held)))

-- no byte yet
pub attended_none : (account : List ℕ) (known : List Entry) (line : Option (List ℕ)) (held : Option (List ℕ)) → HasAttended account known line [] held held known line
attended_none account known line held = ([], ((refl, (refl, refl)), Appends-nil held))

-- one byte more
pub attended_more : (account : List ℕ) (known known1 known2 : List Entry) (line line1 line2 : Option (List ℕ)) (bytes : List ℕ) (byte : ℕ) (a b c : Option (List ℕ)) (all : Bool)
    → HasAttended account known line bytes a b known1 line1 → TakesByte account known1 line1 byte b c all known2 line2 → all ≡ true → HasAttended account known line (bytes ++ byte ∷ []) a c known2 line2
attended_more account known known1 known2 line line1 line2 bytes byte a b c all (told, (attends, wrote)) (told', (one, more)) full = (
  told ++ told',
  (
    attends_joined account known known1 known2 line line1 line2 bytes (byte ∷ []) told told' attends (attends_one account known1 known2 line1 line2 byte told' one),
    Appends-trans a b c told told' wrote (all_written b c told' all full more),
  ),
)

-- all bytes were attended
pub attended_all : (account : List ℕ) (known known' : List Entry) (line line' : Option (List ℕ)) (bytes : List ℕ) (held held' : Option (List ℕ)) (all : Bool)
    → HasAttended account known line bytes held held' known' line' → IsAttended account known line bytes held held' all known' line'
attended_all account known known' line line' bytes held held' all (told, (attends, wrote)) = record {
  attended = bytes;
  others = [];
  parts = sym (append-nil bytes);
  told = told;
  attends = attends;
  written = writes_all held held' told all wrote;
  whole = λ _. refl;
}

-- what is told for one byte was not written whole, and other bytes come after it
pub attended_cut : (account : List ℕ) (known known1 known2 : List Entry) (line line1 line2 : Option (List ℕ)) (bytes : List ℕ) (byte : ℕ) (others came : List ℕ) (a b c : Option (List ℕ)) (all : Bool)
    → HasAttended account known line bytes a b known1 line1 → TakesByte account known1 line1 byte b c all known2 line2 → all ≡ false → came ≡ (bytes ++ byte ∷ []) ++ others
    → IsAttended account known line came a c false known2 line2
attended_cut account known known1 known2 line line1 line2 bytes byte others came a b c all (told, (attends, wrote)) (told', (one, more)) none parts = record {
  attended = bytes ++ byte ∷ [];
  others = others;
  parts = parts;
  told = told ++ told';
  attends = attends_joined account known known1 known2 line line1 line2 bytes (byte ∷ []) told told' attends (attends_one account known1 known2 line1 line2 byte told' one);
  written = writes_after a b c told told' false wrote (more.0, (more.1.0, λ is. cc));
  whole = λ is. cc;
}

-- the byte at an index was attended after those before it
pub attended_byte : (account account1 : List ℕ) (known known1 known2 : List Entry) (line line1 line2 : Option (List ℕ)) (came : List ℕ) (i : ℕ) (a b c : Option (List ℕ)) (all : Bool) → i < length came → all ≡ true → account1 ≡ account
    → HasAttended account known line (take i came) a b known1 line1 → TakesByte account1 known1 line1 (get_or came i 0) b c all known2 line2 → HasAttended account known line (take (i + 1) came) a c known2 line2
attended_byte account account1 known known1 known2 line line1 line2 came i a b c all small full same before one =
    subst (λ (l : List ℕ). HasAttended account known line l a c known2 line2) (sym (take_more came i 0 small))
    (attended_more account known known1 known2 line line1 line2 (take i came) (get_or came i 0) a b c all before
    (subst (λ (u : List ℕ). TakesByte u known1 line1 (get_or came i 0) b c all known2 line2) same one) full)

-- what is told for the byte at an index was not written whole
pub attended_before : (account account1 : List ℕ) (known known1 known2 : List Entry) (line line1 line2 : Option (List ℕ)) (came : List ℕ) (i : ℕ) (a b c : Option (List ℕ)) (all : Bool) → i < length came → all ≡ false → account1 ≡ account
    → HasAttended account known line (take i came) a b known1 line1 → TakesByte account1 known1 line1 (get_or came i 0) b c all known2 line2 → IsAttended account known line came a c false known2 line2
attended_before account account1 known known1 known2 line line1 line2 came i a b c all small none same before one =
    attended_cut account known known1 known2 line line1 line2 (take i came) (get_or came i 0) (drop (i + 1) came) came a b c all before
    (subst (λ (u : List ℕ). TakesByte u known1 line1 (get_or came i 0) b c all known2 line2) same one) none
    (sym (take-append-drop (i + 1) came) ∙ ap (λ (l : List ℕ). l ++ drop (i + 1) came) (take_more came i 0 small))

-- bytes that come after others
pub attended_then : (account : List ℕ) (known known1 known2 : List Entry) (line line1 line2 : Option (List ℕ)) (bytes others : List ℕ) (a b c : Option (List ℕ)) (all : Bool)
    → HasAttended account known line bytes a b known1 line1 → IsAttended account known1 line1 others b c all known2 line2 → IsAttended account known line (bytes ++ others) a c all known2 line2
attended_then account known known1 known2 line line1 line2 bytes others a b c all (told, (attends, wrote)) more = record {
  attended = bytes ++ more.attended;
  others = more.others;
  parts = ap (λ (l : List ℕ). bytes ++ l) more.parts ∙ sym (append_assoc bytes more.attended more.others);
  told = told ++ more.told;
  attends = attends_joined account known known1 known2 line line1 line2 bytes more.attended told more.told attends more.attends;
  written = writes_after a b c told more.told all wrote more.written;
  whole = more.whole;
}

-- if each answer was written, all bytes were attended
pub all_attended : (account : List ℕ) (known known' : List Entry) (line line' : Option (List ℕ)) (bytes : List ℕ) (held held' : Option (List ℕ)) (all : Bool)
    → all ≡ true → IsAttended account known line bytes held held' all known' line' → HasAttended account known line bytes held held' known' line'
all_attended account known known' line line' bytes held held' all full is =
    let same : bytes ≡ is.attended = is.parts ∙ ap (λ (l : List ℕ). is.attended ++ l) (is.whole full) ∙ append-nil is.attended in (
      is.told,
      (
        subst (λ (l : List ℕ). Attends account known line l is.told known' line') (sym same) is.attends,
        all_written held held' is.told all full is.written,
      ),
    )

-- ---- bytes that are read

-- the bytes that came were attended, each whole line with its answer
abbrev pub HasRead : Option (List ℕ) → Option (List ℕ) → List ℕ → List Entry → Option (List ℕ) → Option (List ℕ) → Option (List ℕ) → List Entry → Option (List ℕ) → Type 0
HasRead left left' account known line held held' known' line' = (bytes : List ℕ) × (Consumes left left' bytes × HasAttended account known line bytes held held' known' line')

-- nothing was read yet
pub read_none : (left : Option (List ℕ)) (account : List ℕ) (known : List Entry) (line : Option (List ℕ)) (held : Option (List ℕ)) → HasRead left left account known line held held known line
read_none left account known line held = ([], (Consumes-nil left, attended_none account known line held))

-- a read that gave nothing
pub reads_none : (left left' : Option (List ℕ)) (account : List ℕ) (known : List Entry) (line : Option (List ℕ)) (held : Option (List ℕ)) (all : Bool) → Consumes left left' [] → ReadsLines left left' account known line held held all known line
reads_none left left' account known line held all none = ([], (none, attended_all account known known line line [] held held all (attended_none account known line held)))

-- no read was made
pub reads_nothing : (left : Option (List ℕ)) (account : List ℕ) (known : List Entry) (line : Option (List ℕ)) (held : Option (List ℕ)) (all : Bool) → ReadsLines left left account known line held held all known line
reads_nothing left account known line held all = reads_none left left account known line held all (Consumes-nil left)

-- a read that failed
pub reads_kept : (left left' : Option (List ℕ)) (account : List ℕ) (known : List Entry) (line : Option (List ℕ)) (held : Option (List ℕ)) (all : Bool) → Keeps left left' → ReadsLines left left' account known line held held all known line
reads_kept left left' account known line held all kept = reads_none left left' account known line held all (Consumes-kept left left left' [] (Consumes-nil left) kept)

-- one read more
pub reads_then : (left left1 left2 : Option (List ℕ)) (account account1 : List ℕ) (known known1 known2 : List Entry) (line line1 line2 : Option (List ℕ)) (a b c : Option (List ℕ)) (all : Bool)
    → account1 ≡ account → HasRead left left1 account known line a b known1 line1 → ReadsLines left1 left2 account1 known1 line1 b c all known2 line2 → ReadsLines left left2 account known line a c all known2 line2
reads_then left left1 left2 account account1 known known1 known2 line line1 line2 a b c all same (bytes, (came, attended)) (others, (more, then)) = (
  bytes ++ others,
  (
    Consumes-trans left left1 left2 bytes others came more,
    attended_then account known known1 known2 line line1 line2 bytes others a b c all attended
        (subst (λ (u : List ℕ). IsAttended u known1 line1 others b c all known2 line2) same then),
  ),
)

-- if each answer was written, all bytes that came were attended
pub all_read : (left left' : Option (List ℕ)) (account : List ℕ) (known known' : List Entry) (line line' : Option (List ℕ)) (held held' : Option (List ℕ)) (all : Bool)
    → all ≡ true → ReadsLines left left' account known line held held' all known' line' → HasRead left left' account known line held held' known' line'
all_read left left' account known known' line line' held held' all full (bytes, (came, is)) =
    (bytes, (came, all_attended account known known' line line' bytes held held' all full is))

-- all bytes that came were attended
pub reads_all : (left left' : Option (List ℕ)) (account : List ℕ) (known known' : List Entry) (line line' : Option (List ℕ)) (held held' : Option (List ℕ)) (all : Bool)
    → HasRead left left' account known line held held' known' line' → ReadsLines left left' account known line held held' all known' line'
reads_all left left' account known known' line line' held held' all (bytes, (came, is)) =
    (bytes, (came, attended_all account known known' line line' bytes held held' all is))
