-- Acts with other content.
use Rattle.std.proofs.Common.{◌≡◌, true, ◌&&◌, List, length, map, nat_le, IsSomeAnd, ap, sym, ◌∙◌}
use Rattle.std.proofs.lemmas.Bool.{and_parts, and_from}
use Rattle.std.proofs.lemmas.List.{length-map}
use Rattle.stamp_types.specs.declared.piece.Piece.{Piece}
use Rattle.stamp_types.specs.declared.act.Act.{Act}
use Rattle.stamp_types.specs.declared.act.Act.TheVariants as acts
use Rattle.stamp_types.specs.Pieces.{piece_len}
use Rattle.stamp_values.specs.Names.{is_account, is_container, is_blob}
use Rattle.stamp_types.specs.Changes.{KeyedAct, is_act, is_change, is_in_one_piece, content_of, act_with, change_with}

-- if two lists have pieces of the same lengths, they have as many pieces
same_count : (ps qs : List Piece) → map piece_len ps ≡ map piece_len qs → length ps ≡ length qs
same_count ps qs same = sym (length-map ps piece_len) ∙ ap length same ∙ length-map qs piece_len

-- an act that is good stays good with other content of the same lengths
is_act-act_with : (a : Act) (qs : List Piece) → IsSomeAnd (content_of a) (λ ps. map piece_len ps ≡ map piece_len qs) → is_act a ≡ true → is_act (act_with a qs) ≡ true
is_act-act_with (acts.PutBlock a) qs same is =
    let both = and_parts (is_blob a.blob) (is_in_one_piece a.content) is in
    and_from (is_blob a.blob) (is_in_one_piece qs) both.0 (ap (λ n. nat_le n 1) (sym (same_count a.content qs same)) ∙ both.1)
is_act-act_with (acts.PutBlob a) qs same is = is
is_act-act_with a qs same is = absurd same

-- a change that is good stays good with other content of the same lengths
pub is_change-change_with : (c : KeyedAct) (qs : List Piece) → IsSomeAnd (content_of c.act) (λ ps. map piece_len ps ≡ map piece_len qs) → is_change c ≡ true → is_change (change_with c qs) ≡ true
is_change-change_with c qs same is =
    let both = and_parts (is_account c.key.account && is_container c.key.container) (is_act c.act) is in
    and_from (is_account c.key.account && is_container c.key.container) (is_act (act_with c.act qs)) both.0 (is_act-act_with c.act qs same both.1)
