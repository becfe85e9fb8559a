-- Parts that spans ask for.
use Rattle.std.proofs.Common.{inl, inr, ◌≡◌, ◌≤◌, ◌<◌, ◌+◌, ◌-◌, ◌^◌, ◌∙◌, ◌&&◌, ℕ, Bool, List, [], ◌∷◌, ◌++◌, IsTrue, length, map, take, drop, get_or, ap, refl, subst, sym, arith}
use Rattle.std.specs.Prelude.{All, slice_range, unwrap_or}
use Rattle.std.specs.List.{flat_map, list_all}
use Rattle.std.proofs.lemmas.Grind.{flat_map-append}
use Rattle.std.proofs.lemmas.List.{append-nil, append_assoc, length-append, take-append-drop, length-take, map-append, take_more}
use Rattle.std.proofs.lemmas.List.Concat.{flat_map-cons}
use Rattle.std.proofs.lemmas.List.Sums.{sum_by-cons}
use Rattle.std.proofs.lemmas.List.Elements.{All-get_or, All-weaker}
use Rattle.extent_node.specs.Copies.{Block}
use Rattle.stamp_types.specs.declared.piece.Piece.{Piece}
use Rattle.stamp_types.specs.declared.piece.Piece.TheVariants.{Bytes, At}
use Rattle.stamp_types.specs.Contents.{EachContent}
use Rattle.stamp_types.specs.Pieces.{piece_len}
use Rattle.stamp_types.specs.World.{Part}
use Rattle.stamp_types.proofs.EachContents.{EachContent-then}
use Rattle.stream_manager.specs.Streams.{Streamed, laid}
use Rattle.partition_stream.specs.Contents.{AreStored, IsStored, bytes_at}
use Rattle.partition_stream.specs.Parts.{KeptPart, is_piece_in_last}
use Rattle.partition_stream.specs.Streams.{ThreeStreams}
use Rattle.range_rows.specs.declared.answer.Span.{Span}
use Rattle.range_rows.specs.SentContent.{AreShort, ReadsWhole, is_within, span_bytes, spans_len}
use Rattle.tickets.specs.Answers.{IsSpanStored, are_in_last, kept_span}
use Rattle.tickets.specs.Tickets.{are_read, parts_bytes}

-- a part is known by its bytes and by whether it was read
pub same_part : (blobs : Streamed) (s : Span) (p : KeptPart) → p.bytes ≡ slice_range (bytes_at (laid blobs) s.piece) s.from s.to → p.is_read ≡ is_piece_in_last blobs s.piece → p ≡ kept_span blobs s
same_part blobs s p bytes read = λ i. record { bytes = bytes i; is_read = read i }

-- the span at an index is stored
pub stored_at : (s t : ThreeStreams) (ss : List Span) (i : ℕ) (span : Span) → t ≡ s → All (IsSpanStored (laid s.blobs)) ss → i < length ss → span ≡ get_or ss i span
    → IsSpanStored (laid t.blobs) span
stored_at s t ss i span same stored within is =
    subst (λ (u : ThreeStreams). IsSpanStored (laid u.blobs) span) (sym same)
    (subst (λ (x : Span). IsSpanStored (laid s.blobs) x) (sym is) (All-get_or (IsSpanStored (laid s.blobs)) ss i span within stored))

-- one part more
pub kept_more : (s t : ThreeStreams) (ss : List Span) (i : ℕ) (span : Span) (done all : List KeptPart) → t ≡ s → i < length ss → span ≡ get_or ss i span
    → done ≡ map (kept_span s.blobs) (take i ss) → all ≡ done ++ kept_span t.blobs span ∷ [] → all ≡ map (kept_span s.blobs) (take (i + 1) ss)
kept_more s t ss i span done all same within is before more =
    let next : take (i + 1) ss ≡ take i ss ++ span ∷ [] = take_more ss i span within ∙ ap (λ x. take i ss ++ x ∷ []) (sym is) in
    more ∙ ap (λ (u : ThreeStreams). done ++ kept_span u.blobs span ∷ []) same ∙ ap (λ l. l ++ kept_span s.blobs span ∷ []) before
    ∙ sym (ap (map (kept_span s.blobs)) next ∙ map-append (kept_span s.blobs) (take i ss) (span ∷ []))

one_bytes : (p : KeptPart) → parts_bytes (p ∷ []) ≡ p.bytes
one_bytes p = flat_map-cons (λ (p : KeptPart). p.bytes) p [] ∙ append-nil p.bytes

-- the bytes of one part more
pub more_bytes : (body done all : List ℕ) (ps : List KeptPart) (i : ℕ) (p : KeptPart) → i < length ps → p ≡ get_or ps i p → done ≡ body ++ parts_bytes (take i ps)
    → all ≡ done ++ p.bytes → all ≡ body ++ parts_bytes (take (i + 1) ps)
more_bytes body done all ps i p within is before more =
    let next : take (i + 1) ps ≡ take i ps ++ p ∷ [] = take_more ps i p within ∙ ap (λ x. take i ps ++ x ∷ []) (sym is) in
    more ∙ ap (λ l. l ++ p.bytes) before ∙ append_assoc body (parts_bytes (take i ps)) p.bytes
    ∙ ap (λ l. body ++ l) (sym (ap parts_bytes next ∙ flat_map-append (λ (p : KeptPart). p.bytes) (take i ps) (p ∷ []) ∙ ap (λ l. parts_bytes (take i ps) ++ l) (one_bytes p)))

-- they are no longer than those of all parts
pub more_fits : (body done : List ℕ) (ps : List KeptPart) (i n : ℕ) (p : KeptPart) → i < length ps → p ≡ get_or ps i p → done ≡ body ++ parts_bytes (take i ps)
    → length (body ++ parts_bytes ps) < n → length (done ++ p.bytes) < n
more_fits body done ps i n p within is before fits =
    let front : List ℕ = parts_bytes (take (i + 1) ps) in
    let rest : List ℕ = parts_bytes (drop (i + 1) ps) in
    let whole : parts_bytes ps ≡ front ++ rest = ap parts_bytes (sym (take-append-drop (i + 1) ps)) ∙ flat_map-append (λ (p : KeptPart). p.bytes) (take (i + 1) ps) (drop (i + 1) ps) in
    let next : length (done ++ p.bytes) ≡ length (body ++ front) = ap length (more_bytes body done (done ++ p.bytes) ps i p within is before refl) in
    let all : length (body ++ parts_bytes ps) ≡ length (body ++ (front ++ rest)) = ap (λ (l : List ℕ). length (body ++ l)) whole in
    let one = length-append body front in
    let two = length-append body (front ++ rest) in
    let three = length-append front rest in
    omega (arith, fits, next, all, one, two, three)

-- the bytes of the parts are those of the spans
pub kept_bytes : (blobs : Streamed) (ss : List Span) → parts_bytes (map (kept_span blobs) ss) ≡ flat_map (span_bytes (bytes_at (laid blobs))) ss
kept_bytes blobs [] = refl
kept_bytes blobs (s ∷ ss) =
    flat_map-cons (λ (p : KeptPart). p.bytes) (kept_span blobs s) (map (kept_span blobs) ss)
    ∙ ap (λ l. span_bytes (bytes_at (laid blobs)) s ++ l) (kept_bytes blobs ss)
    ∙ sym (flat_map-cons (span_bytes (bytes_at (laid blobs))) s ss)

-- each part was read if each span is in the last extent
pub kept_read : (blobs : Streamed) (ss : List Span) → are_read (map (kept_span blobs) ss) ≡ are_in_last blobs ss
kept_read blobs [] = refl
kept_read blobs (s ∷ ss) = ap (λ b. is_piece_in_last blobs s.piece && b) (kept_read blobs ss)

shortened : (n : ℕ) (bs : List ℕ) (from : ℕ) → length (take n (drop from bs)) ≤ n
shortened n bs from = omega (arith, length-take n (drop from bs))

-- spans have no more bytes than they ask for
spans_short : (read : Piece → List ℕ) (ss : List Span) → length (flat_map (span_bytes read) ss) ≤ spans_len ss
spans_short read [] = omega arith
spans_short read (s ∷ ss) =
    let first = ap length (flat_map-cons (span_bytes read) s ss) ∙ length-append (span_bytes read s) (flat_map (span_bytes read) ss) in
    omega (arith, first, shortened (s.to - s.from) (read s.piece) s.from, spans_short read ss, sum_by-cons (λ (s : Span). s.to - s.from) s ss)

-- the body with the bytes of the parts is not too long, if so many bytes of the body fit in memory
pub short_answer : (blobs : Streamed) (body : List ℕ) (ss : List Span) (n : ℕ) → AreShort body ss → n ≡ length body → n < 2 ^ 64 → length (body ++ parts_bytes (map (kept_span blobs) ss)) < 2 ^ 64
short_answer blobs body ss n (inl none) counted held =
    let content : parts_bytes (map (kept_span blobs) ss) ≡ [] = ap (λ x. parts_bytes (map (kept_span blobs) x)) none in
    let both = length-append body (parts_bytes (map (kept_span blobs) ss)) in
    let nothing : length (parts_bytes (map (kept_span blobs) ss)) ≡ 0 = ap length content in
    omega (arith, both, nothing, counted, held)
short_answer blobs body ss n (inr short) counted held =
    let both = length-append body (parts_bytes (map (kept_span blobs) ss)) in
    let content = ap length (kept_bytes blobs ss) in
    omega (arith, both, content, spans_short (bytes_at (laid blobs)) ss, short)

-- a piece that is stored is read whole
stored_whole : (es : List (List Block)) (p : Piece) → IsStored es p → length (bytes_at es p) ≡ piece_len p
stored_whole es (Bytes bs) stored = absurd stored
stored_whole es (At place n) stored = ap (λ o. length (unwrap_or o [])) stored.1.0 ∙ stored.1.1

-- each content of a container that is stored is read whole
pub contents_whole : (es : List (List Block)) (p : Part (List Piece)) → EachContent (AreStored es) p → EachContent (ReadsWhole (bytes_at es)) p
contents_whole es p stored =
    EachContent-then (AreStored es) (ReadsWhole (bytes_at es)) (λ ps each. All-weaker (IsStored es) (λ piece. length (bytes_at es piece) ≡ piece_len piece) (stored_whole es) ps each) p stored
