-- An effect and the container that it reaches.
use Rattle.std.proofs.Common.{◌≡◌, ℕ, Bool, true, false, List, Option, Some, None, IfSome, refl, sym, ap, ◌∙◌, subst}
use Rattle.std.specs.Option.{option_map, option_and_then}
use Rattle.std.specs.Cmp.{eq_by_cmp_equiv}
use Rattle.std.specs.Ordering.{eq_by_cmp}
use Rattle.stamp_values.specs.Order.{key_cmp, keys_total, keys_exact}
use Rattle.stamp_values.specs.declared.key.Key.{Key}
use Rattle.stamp_types.specs.declared.act.Act.{Act}
use Rattle.stamp_types.specs.declared.act.Act.TheVariants as act
use Rattle.stamp_types.specs.declared.act.PutBlob.{PutBlob}
use Rattle.stamp_types.specs.declared.act.PutBlock.{PutBlock}
use Rattle.stamp_types.specs.declared.act.PutBlockList.{PutBlockList}
use Rattle.stamp_types.specs.declared.args.Kept.{Kept}
use Rattle.stamp_types.specs.declared.piece.Piece.{Piece}
use Rattle.stamp_types.specs.declared.refusal.Refusal.{Refusal}
use Rattle.stamp_types.specs.Changes.{KeyedAct}
use Rattle.stamp_types.specs.Requests.{Asked}
use Rattle.stamp_types.specs.World.{Part, World, blob_in, part_at, part_value, changed}
use Rattle.stamp_types.proofs.WorldLemmas.{equal_if_is_eq, part_at-changed_in, part_at-changed_in_others}
use Rattle.access_rules.specs.declared.keys.Keys.{Keys}
use Rattle.range_rows.specs.RequestChanges.{put_blob, put_block, put_block_list, act_by, change_of, part_after}
use Rattle.stamp_model.specs.Refusals.{refusal}
use Rattle.stamp_model.specs.Effects.{unless_refused, world_after, change_as, effect_as}

-- an act on a container
abbrev pub on_key : Key → Act → KeyedAct
on_key k a = record { key = k; act = a }

module _ {C : Type 0} (size : C → ℕ) (f : List Piece → C) where
  own : (w : World C) (k : Key) (r : Option Refusal) (a : Option Act) → part_at (world_after f (unless_refused r (option_map (on_key k) a)) w) k ≡ part_after f (unless_refused r (option_map (on_key k) a)) (part_at w k)
  own w k (Some r) a = refl
  own w k None None = refl
  own w k None (Some a) = part_at-changed_in f w (on_key k a)

  others : (w : World C) (k other : Key) (r : Option Refusal) (a : Option Act) → (other ≡ k → ⊥) → part_at (world_after f (unless_refused r (option_map (on_key k) a)) w) other ≡ part_at w other
  others w k other (Some r) a apart = refl
  others w k other None None apart = refl
  others w k other None (Some a) apart = part_at-changed_in_others f w (on_key k a) other apart

  module _ (keys : Option Keys) (w : World C) (q : Asked) (t : ℕ) where
    abbrev own_sizes : Part ℕ
    own_sizes = part_value size (part_at w q.ask.key)

    -- the request's own container
    pub part_at-effect : part_at (effect_as size f keys w q t) q.ask.key ≡ change_as size f keys (part_at w q.ask.key) q t
    part_at-effect = own w q.ask.key (refusal keys own_sizes q t) (act_by q.ask.op own_sizes q t)

    -- any other container
    pub part_at-effect_others : (k : Key) → (k ≡ q.ask.key → ⊥) → part_at (effect_as size f keys w q t) k ≡ part_at w k
    part_at-effect_others k apart = others w q.ask.key k (refusal keys own_sizes q t) (act_by q.ask.op own_sizes q t) apart

    -- if the request is refused, all containers stay as they are
    pub effect-refused : (r : Refusal) → refusal keys own_sizes q t ≡ Some r → effect_as size f keys w q t ≡ w
    effect-refused r h = ap (λ (o : Option Refusal). world_after f (unless_refused o (change_of own_sizes q t)) w) h

  -- worlds that agree on the container agree on it after the request
  pub part_at-effect_agrees : (keys : Option Keys) (w v : World C) (q : Asked) (t : ℕ) → part_at w q.ask.key ≡ part_at v q.ask.key → part_at (effect_as size f keys w q t) q.ask.key ≡ part_at (effect_as size f keys v q t) q.ask.key
  part_at-effect_agrees keys w v q t same =
      part_at-effect keys w q t ∙ ap (λ (p : Part C). change_as size f keys p q t) same ∙ sym (part_at-effect keys v q t)

-- ---- what is said of each act

-- what is said of the act of each name and of each value is said of the act of the name and the value that are given, if both are given
pub said_of_both : {X : Type 0} (said : Act → Type 0) (make : List ℕ → X → Act) → ((name : List ℕ) (x : X) → said (make name x)) → (blob : Option (List ℕ)) (given : Option X)
    → IfSome (option_and_then (λ name. option_map (λ x. make name x) given) blob) said
said_of_both said make each None given = tt
said_of_both said make each (Some name) None = tt
said_of_both said make each (Some name) (Some x) = each name x

-- what is said of each Put Blob is said of the act of a request, if the request has an act
pub said_of_put : (said : Act → Type 0) → ((a : PutBlob) → said (act.PutBlob a)) → (q : Asked) (t : ℕ) (blob : Option (List ℕ)) (kept : Option Kept)
    → IfSome (option_and_then (λ name. option_map (λ kept. act.PutBlob (put_blob q t name kept)) kept) blob) said
said_of_put said each q t blob kept = said_of_both said (λ name kept. act.PutBlob (put_blob q t name kept)) (λ name kept. each (put_blob q t name kept)) blob kept

-- the same of each Put Block
pub said_of_block : (said : Act → Type 0) → ((a : PutBlock) → said (act.PutBlock a)) → (q : Asked) (blob : Option (List ℕ)) (id : Option (List ℕ))
    → IfSome (option_and_then (λ name. option_map (λ id. act.PutBlock (put_block q name id)) id) blob) said
said_of_block said each q blob id = said_of_both said (λ name id. act.PutBlock (put_block q name id)) (λ name id. each (put_block q name id)) blob id

-- the same of each Put Block List
pub said_of_list : (said : Act → Type 0) → ((a : PutBlockList) → said (act.PutBlockList a)) → (z : Part ℕ) (q : Asked) (t : ℕ) (blob : Option (List ℕ)) (kept : Option Kept)
    → IfSome (option_and_then (λ name. option_map (λ kept. act.PutBlockList (put_block_list (blob_in z name) q t name kept)) kept) blob) said
said_of_list said each z q t blob kept =
    said_of_both said (λ name kept. act.PutBlockList (put_block_list (blob_in z name) q t name kept)) (λ name kept. each (put_block_list (blob_in z name) q t name kept)) blob kept

-- what is said of the act of each name is said of the act of the name that is given, if a name is given
pub said_of_named : (said : Act → Type 0) (make : List ℕ → Act) → ((name : List ℕ) → said (make name)) → (blob : Option (List ℕ)) → IfSome (option_map make blob) said
said_of_named said make each None = tt
said_of_named said make each (Some name) = each name

-- ---- each container before a request and after it

module _ {C : Type 0} (f : List Piece → C) (related : Part C → Part C → Type 0) (stays : (p : Part C) → related p p) where
  -- a container is related to what it is after an act, if it is so related to what each act makes of it
  pub related-after_act : (k : Key) (p : Part C) (a : Option Act) → IfSome a (λ a. related p (changed f a p)) → related p (part_after f (option_map (on_key k) a) p)
  related-after_act k p None said = stays p
  related-after_act k p (Some a) said = said

  -- whether a change is refused or not, a container is related to what it is after it, if it is so related to what the change makes of it
  pub related-unless_refused : (p : Part C) (r : Option Refusal) (c : Option KeyedAct) → related p (part_after f c p) → related p (part_after f (unless_refused r c) p)
  related-unless_refused p None c own = own
  related-unless_refused p (Some r) c own = stays p

  module _ (size : C → ℕ) (keys : Option Keys) (w : World C) (q : Asked) (t : ℕ) (own : (z : Part ℕ) (p : Part C) → related p (part_after f (change_of z q t) p)) where
    by_key : (k : Key) (b : Bool) → eq_by_cmp key_cmp k q.ask.key ≡ b → related (part_at w k) (part_at (effect_as size f keys w q t) k)
    by_key k true e =
        subst (λ (x : Key). related (part_at w x) (part_at (effect_as size f keys w q t) x)) (sym (keys_exact k q.ask.key (equal_if_is_eq (key_cmp k q.ask.key) e)))
        (subst (λ (p : Part C). related (part_at w q.ask.key) p) (sym (part_at-effect size f keys w q t))
        (related-unless_refused (part_at w q.ask.key) (refusal keys (own_sizes size f keys w q t) q t) (change_of (own_sizes size f keys w q t) q t) (own (own_sizes size f keys w q t) (part_at w q.ask.key))))
    by_key k false e = subst (λ (p : Part C). related (part_at w k) p) (sym (part_at-effect_others size f keys w q t k (λ same. apart same e))) (stays (part_at w k))
      where
        apart : k ≡ q.ask.key → eq_by_cmp key_cmp k q.ask.key ≡ false → ⊥
        apart same e =
            let tied : true ≡ false = sym ((eq_by_cmp_equiv keys_total).refl q.ask.key) ∙ ap (λ (x : Key). eq_by_cmp key_cmp x q.ask.key) (sym same) ∙ e in cc

    -- each container is related to what it is after a request, if it is so related to what the request's change makes of it
    pub related-effect : (k : Key) → related (part_at w k) (part_at (effect_as size f keys w q t) k)
    related-effect k = by_key k (eq_by_cmp key_cmp k q.ask.key) refl
