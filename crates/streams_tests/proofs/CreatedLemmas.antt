-- Rows whose one container was created just now: they can be written, and they have no content.
use Rattle.std.proofs.Common.{◌≡◌, ◌&&◌, Bool, true, false, cond, List, Option, Some, None, ap, refl, sym, subst, unwrap_or, arith}
use Rattle.std.specs.FinMap as finite
use Rattle.std.specs.Ordering.{eq_by_cmp}
use Rattle.std.proofs.lemmas.Bool.{and_parts}
use Rattle.std.proofs.lemmas.Map.Views.{tells_apart}
use Rattle.extent_node.specs.Copies.{Block}
use Rattle.stamp_values.specs.Names.{is_account, is_container}
use Rattle.stamp_values.specs.Order.{key_cmp, keys_exact, keys_total}
use Rattle.stamp_values.specs.declared.key.Key.{Key}
use Rattle.stamp_types.specs.Changes.{KeyedAct, is_act, is_change}
use Rattle.stamp_types.specs.Contents.{EachActContent, EachWorldContent}
use Rattle.stamp_types.specs.World.{Part, World, changed, changed_in, no_part, part_at, same_pieces}
use Rattle.stamp_types.specs.declared.act.Act.{Act}
use Rattle.stamp_types.specs.declared.act.Act.TheVariants as act
use Rattle.stamp_types.specs.declared.act.CreateContainer.{CreateContainer}
use Rattle.stamp_types.specs.declared.piece.Piece.{Piece}
use Rattle.stamp_types.proofs.EachContents.{EachWorldContent-changed_in, EachWorldContent-empty}
use Rattle.partition_stream.specs.Contents.{AreStored}
use Rattle.checkpoint_rows.specs.Writing.{AreWritable, HasGoodNames, IsWritable}
use Rattle.checkpoint_rows.proofs.WritableLemmas.{none_writable}

named : (c : KeyedAct) → is_change c ≡ true → HasGoodNames c.key
named c good =
    let both = and_parts (is_account c.key.account && is_container c.key.container) (is_act c.act) good in
    let names = and_parts (is_account c.key.account) (is_container c.key.container) both.0 in
    record { account = names.0; container = names.1 }

-- the container that is created where none was
own : (key : Key) (a : CreateContainer) (p : Part (List Piece)) → p ≡ no_part → HasGoodNames key → IsWritable key (changed same_pieces (act.CreateContainer a) p)
own key a p none names =
    record {
      named = λ some. names;
      unseen = λ zero. absurd (omega (arith, zero));
      blobs = (subst (IsWritable key) (sym none) (none_writable key)).blobs;
    }

-- all containers of the rows can be written
pub created_writable : (c : KeyedAct) (a : CreateContainer) → is_change c ≡ true → c.act ≡ act.CreateContainer a → AreWritable (changed_in same_pieces finite.empty c)
created_writable c a good created = λ key.
    subst (λ (o : Option (Part (List Piece))). IsWritable key (unwrap_or o no_part))
    (sym (finite.get-insert keys_total finite.empty c.key made key)) (by key (eq_by_cmp key_cmp key c.key) refl)
  where
    nothing : World (List Piece)
    nothing = finite.empty

    before : Part (List Piece)
    before = part_at nothing c.key

    made : Part (List Piece)
    made = changed same_pieces c.act before

    none : before ≡ no_part
    none = ap (λ (o : Option (Part (List Piece))). unwrap_or o no_part) (finite.get-empty key_cmp c.key)

    first : IsWritable c.key made
    first = subst (λ act. IsWritable c.key (changed same_pieces act before)) (sym created) (own c.key a before none (named c good))

    by : (key : Key) (t : Bool) → eq_by_cmp key_cmp key c.key ≡ t → IsWritable key (unwrap_or (cond t (Some made) (finite.get nothing key)) no_part)
    by key true same = subst (λ key. IsWritable key made) (sym (tells_apart keys_exact key c.key same)) first
    by key false off = subst (λ (o : Option (Part (List Piece))). IsWritable key (unwrap_or o no_part)) (sym (finite.get-empty key_cmp key)) (none_writable key)

-- the rows have no content, so all of it is stored
pub created_stored : (es : List (List Block)) (c : KeyedAct) (a : CreateContainer) → c.act ≡ act.CreateContainer a → EachWorldContent (AreStored es) (changed_in same_pieces finite.empty c)
created_stored es c a created =
    EachWorldContent-changed_in (AreStored es) same_pieces finite.empty c (EachWorldContent-empty (AreStored es))
    (subst (λ act. EachActContent (AreStored es) act) (sym created) tt)
