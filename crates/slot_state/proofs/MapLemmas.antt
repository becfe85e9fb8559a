-- An entry that was taken back leaves the lists as they were.
use Rattle.std.proofs.Common.{◌≡◌, Bool, true, false, cond, IsTrue, ◌↔◌, subst, List, [], ◌∷◌, ◌++◌, Option, Some, None, unwrap_or, refl, sym, ap, ◌∙◌}
use Rattle.std.specs.Ordering.{eq_by_cmp}
use Rattle.std.specs.Cmp.{eq_by_cmp_equiv}
use Rattle.std.specs.Cmp.{Equal-is}
use Rattle.std.specs.FinMap.{get, insert, remove, get-insert, get-remove, same_map}
use Rattle.stamp_values.specs.Order.{key_cmp, keys_total, keys_exact}
use Rattle.stamp_values.specs.declared.key.Key.{Key}
use Rattle.stamp_values.proofs.TreeMaps.{insert_same}
use Rattle.stamp_types.specs.declared.past.Past.{Past}
use Rattle.slot_state.specs.HistoryMaps.{Histories, NoneIsEmpty, front, history_at, with_entry, with_history, without_last}

-- keys that compare as equal are the same key
pub tied : (q k : Key) → eq_by_cmp key_cmp q k ≡ true → q ≡ k
tied q k tie = keys_exact q k ((Equal-is (key_cmp q k)).0 tie)

-- the last entry is the one that was added
front_added : (es : List Past) (e : Past) → front (es ++ e ∷ []) ≡ es
front_added [] e = refl
front_added (x ∷ []) e = refl
front_added (x ∷ y ∷ es) e = ap (λ (t : List Past). x ∷ t) (front_added (y ∷ es) e)

-- what a test on the key leaves of two changes of one key
twice : (o : Option (List Past)) (v w : List Past) (b : Bool) → cond b (Some w) (cond b (Some v) o) ≡ cond b (Some w) o
twice o v w true = refl
twice o v w false = refl

gone : (o : Option (List Past)) (v : List Past) (b : Bool) → cond b None (cond b (Some v) o) ≡ cond b None o
gone o v true = refl
gone o v false = refl

chosen : (o c : Option (List Past)) (b : Bool) → (b ≡ true → o ≡ c) → cond b c o ≡ o
chosen o c true is = sym (is refl)
chosen o c false is = refl

-- what is put back is what was there
put_back : (h : Histories) (k : Key) (v : List Past) (o : Option (List Past)) → get h k ≡ o → NoneIsEmpty h → with_history (insert h k v) k (unwrap_or o []) ≡ h
put_back h k v None is none = same_map keys_total keys_exact _ _ (λ q.
    get-remove keys_total (insert h k v) k q
    ∙ ap (λ (o : Option (List Past)). cond (eq_by_cmp key_cmp q k) None o) (get-insert keys_total h k v q)
    ∙ gone (get h q) v (eq_by_cmp key_cmp q k)
    ∙ chosen (get h q) None (eq_by_cmp key_cmp q k) (λ tie. ap (λ (x : Key). get h x) (tied q k tie) ∙ is))
put_back h k v (Some []) is none = absurd (none k is)
put_back h k v (Some (e ∷ es)) is none = same_map keys_total keys_exact _ _ (λ q.
    get-insert keys_total (insert h k v) k (e ∷ es) q
    ∙ ap (λ (o : Option (List Past)). cond (eq_by_cmp key_cmp q k) (Some (e ∷ es)) o) (get-insert keys_total h k v q)
    ∙ twice (get h q) v (e ∷ es) (eq_by_cmp key_cmp q k)
    ∙ chosen (get h q) (Some (e ∷ es)) (eq_by_cmp key_cmp q k) (λ tie. ap (λ (x : Key). get h x) (tied q k tie) ∙ is))

-- what the key that was changed has
own_by : (o : Option (List Past)) (v : List Past) (b : Bool) → b ≡ true → cond b (Some v) o ≡ Some v
own_by o v true is = refl
own_by o v false is = cc

get_own : (h : Histories) (k : Key) (v : List Past) → get (insert h k v) k ≡ Some v
get_own h k v = get-insert keys_total h k v k ∙ own_by (get h k) v (eq_by_cmp key_cmp k k) ((eq_by_cmp_equiv keys_total).refl k)

pub taken_back : (before pushed after : Histories) (e : Past) (key : Key) → NoneIsEmpty before → pushed ≡ with_entry before e → key ≡ e.request.ask.key → after ≡ without_last pushed key → after ≡ before
taken_back before pushed after e key none is same taken =
    let k = e.request.ask.key in
    let v = history_at before k ++ e ∷ [] in
    let own : history_at (with_entry before e) k ≡ v = ap (λ (o : Option (List Past)). unwrap_or o []) (get_own before k v) in
    taken
    ∙ ap (λ (q : Key). without_last pushed q) same
    ∙ ap (λ (m : Histories). without_last m k) is
    ∙ ap (λ (es : List Past). with_history (with_entry before e) k (front es)) own
    ∙ ap (λ (es : List Past). with_history (with_entry before e) k es) (front_added (history_at before k) e)
    ∙ put_back before k v (get before k) refl none

no_end : (xs : List Past) (e : Past) → xs ++ e ∷ [] ≡ [] → ⊥
no_end [] e h = cc
no_end (x ∷ xs) e h = cc

pub has_entry : (before pushed : Histories) (e : Past) → pushed ≡ with_entry before e → history_at pushed e.request.ask.key ≡ [] → ⊥
has_entry before pushed e is empty =
    let k = e.request.ask.key in
    let v = history_at before k ++ e ∷ [] in
    let own : history_at (with_entry before e) k ≡ v = ap (λ (o : Option (List Past)). unwrap_or o []) (get_own before k v) in
    no_end (history_at before k) e (sym own ∙ ap (λ (m : Histories). history_at m k) (sym is) ∙ empty)

-- to put under a key the history that the key has changes nothing
pub same_histories : (h : Histories) (k : Key) (es : List Past) → get h k ≡ Some es → insert h k es ≡ h
same_histories = insert_same keys_total keys_exact

-- the first entry of a container
pub first_noted : (h h' : Histories) (k : Key) (e : Past) → k ≡ e.request.ask.key → get h e.request.ask.key ≡ None → h' ≡ insert h k (e ∷ []) → h' ≡ with_entry h e
first_noted h h' k e own absent is =
    let none : history_at h e.request.ask.key ≡ [] = ap (λ (o : Option (List Past)). unwrap_or o []) absent in
    is ∙ ap (λ (k : Key). insert h k (e ∷ [])) own ∙ (λ i. insert h e.request.ask.key (sym none i ++ e ∷ []))

-- a list without its last entry is its front
pub front_of : (longer es : List Past) (e : Past) → longer ≡ es ++ e ∷ [] → es ≡ front longer
front_of longer es e is = sym (front_added es e) ∙ ap front (sym is)

-- a shorter list that is put under its key, or is removed if it is empty
put_list : (h : Histories) (k : Key) (es : List Past) → (es ≡ [] → ⊥) → insert h k es ≡ with_history h k es
put_list h k [] some = absurd (some refl)
put_list h k (e ∷ es) some = refl

pub with_rest : (h h' : Histories) (k : Key) → h' ≡ insert h k (front (history_at h k)) → (front (history_at h k) ≡ [] → ⊥) → h' ≡ without_last h k
with_rest h h' k is some = is ∙ put_list h k (front (history_at h k)) some

removed_new : (h : Histories) (k : Key) (v : List Past) → remove (insert h k v) k ≡ remove h k
removed_new h k v = same_map keys_total keys_exact _ _ (λ q.
    get-remove keys_total (insert h k v) k q
    ∙ ap (λ (o : Option (List Past)). cond (eq_by_cmp key_cmp q k) None o) (get-insert keys_total h k v q)
    ∙ gone (get h q) v (eq_by_cmp key_cmp q k)
    ∙ sym (get-remove keys_total h k q))

pub with_none : (h h' h'' : Histories) (k : Key) → h' ≡ insert h k (front (history_at h k)) → front (history_at h k) ≡ [] → h'' ≡ remove h' k → h'' ≡ without_last h k
with_none h h' h'' k is none removed =
    removed ∙ ap (λ (m : Histories). remove m k) is ∙ removed_new h k (front (history_at h k)) ∙ ap (λ (es : List Past). with_history h k es) (sym none)

pub none_left_of : (longer es : List Past) (e : Past) (b : Bool) → longer ≡ es ++ e ∷ [] → (IsTrue b ↔ (es ≡ [])) → (IsTrue b ↔ (front longer ≡ []))
none_left_of longer es e b is left = subst (λ (xs : List Past). IsTrue b ↔ (xs ≡ [])) (front_of longer es e is) left
