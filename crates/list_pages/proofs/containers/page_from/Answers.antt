use Rattle.std.proofs.Common.{◌≡◌, ℕ, cond, length, true, false, List, [], ◌∷◌, ◌++◌, Some, None, sym, refl, ap, subst, ◌∙◌, arith, length-append}
use Rattle.std.specs.List.{filter_map}
use Rattle.std.specs.Option.{option_copied, option_map}
use Rattle.stamp_values.specs.Trees.{is_name_from}
use Rattle.list_pages.specs.Containers.{is_out}
use Rattle.list_pages.specs.Lists.{ShownContainer, shown_container, shown_standing}
use Rattle.list_pages.specs.Names.{begins_with}
use Rattle.list_pages.specs.Pages.{Entry}
use Rattle.list_pages.specs.Ranges.{key_of}
use Rattle.list_pages.specs.Seeks.{later_of}
use Rattle.list_pages.proofs.Keys.{FromKey, InKeyOrder, at_in, at_out, listed_rows, listed_up, shown, start_from, start_left, start_order, to_page}
use Rattle.list_pages.proofs.Steps.{all_walked, at_name, at_start, full_name, past_prefix, skip_none, skip_without, take_name}
use Rattle.list_pages.proofs.containers.page_from.Goals as goal

pub loop-key-init : goal.loop-key-init
loop-key-init c =
    let same : later_of c.args.prefix.now c.args.start.now.container ≡ c.args.start.now.container = ap (λ b. cond b c.args.start.now.container c.args.prefix.now) c.requires in
    let first : c.args.start.now ≡ key_of c.args.start.now.account (later_of c.args.prefix.now c.args.start.now.container) = ap (key_of c.args.start.now.account) (sym same) in
    record { can = tt; ends = tt; at = at_start shown_container c.args.prefix.now [] c.args.start.now.container (listed_rows shown_container c.args.start.now.account (option_map (λ t. t.now) c.args.end) c.args.prefix.now c.args.start.now.container c.args.rows.now) (listed_up shown_container c.args.start.now.account (option_map (λ t. t.now) c.args.end) c.args.prefix.now c.args.start.now.container c.args.rows.now) c.new-entries.result.items (filter_map (shown c.args.start.now.account (option_map (λ t. t.now) c.args.end)) c.containers_from-left.result) (later_of c.args.prefix.now c.args.start.now.container) c.new-entries.ensures.items refl (start_left shown_container c.args.start.now.account (option_map (λ t. t.now) c.args.end) c.args.prefix.now c.args.start.now.container c.args.rows.now c.args.start.now c.containers_from-left.result (later_of c.args.prefix.now c.args.start.now.container) first c.containers_from-left.ensures); from = start_from shown_container c.args.start.now.account (option_map (λ t. t.now) c.args.end) c.args.prefix.now c.args.start.now.container c.args.rows.now c.args.start.now c.containers_from-left.result c.containers_from-left.ensures; order = start_order shown_container c.args.start.now.account (option_map (λ t. t.now) c.args.end) c.args.prefix.now c.args.start.now.container c.args.rows.now c.args.start.now c.containers_from-left.result c.containers_from-left.ensures; room = omega (arith, ap (λ (items : List (Entry ShownContainer)). length items) c.new-entries.ensures.items) }

pub returns-then-is_out : goal.returns-then-is_out
returns-then-is_out c =
    let raw : c.loop-key.left ≡ (c.in-Some.key.now, c.in-Some.found) ∷ c.next.new.self = c.in-Some.ensures.steps in
    let outside : is_out c.args.start.now.account (option_map (λ t. t.now) c.args.end) c.in-Some.key.now ≡ true = sym c.is_out.ensures ∙ c.if-is_out.true in
    let from : FromKey c.args.start.now ((c.in-Some.key.now, c.in-Some.found) ∷ c.next.new.self) = subst (FromKey c.args.start.now) raw c.loop-key.invariant.from in
    let order : InKeyOrder ((c.in-Some.key.now, c.in-Some.found) ∷ c.next.new.self) = subst InKeyOrder raw c.loop-key.invariant.order in
    let none : (filter_map (shown c.args.start.now.account (option_map (λ t. t.now) c.args.end)) c.loop-key.left) ≡ [] = ap (filter_map (shown c.args.start.now.account (option_map (λ t. t.now) c.args.end))) raw ∙ at_out c.args.start.now.account (option_map (λ t. t.now) c.args.end) c.args.start.now (c.in-Some.key.now, c.in-Some.found) c.next.new.self refl from order outside in
    to_page shown_container c.args.start.now.account (option_map (λ t. t.now) c.args.end) c.args.prefix.now c.args.start.now.container c.args.rows.now c.new.result (record { entries = c.loop-key.entries.items; next = None }) c.args.max (all_walked shown_container c.args.prefix.now [] c.args.start.now.container (listed_rows shown_container c.args.start.now.account (option_map (λ t. t.now) c.args.end) c.args.prefix.now c.args.start.now.container c.args.rows.now) (listed_up shown_container c.args.start.now.account (option_map (λ t. t.now) c.args.end) c.args.prefix.now c.args.start.now.container c.args.rows.now) (record { entries = c.loop-key.entries.items; next = None }) c.args.max c.loop-key.entries.items (filter_map (shown c.args.start.now.account (option_map (λ t. t.now) c.args.end)) c.loop-key.left) c.loop-key.invariant.at none c.loop-key.invariant.room refl refl) c.new.ensures.entries c.new.ensures.next

pub returns-then-is_from : goal.returns-then-is_from
returns-then-is_from c =
    let raw : c.loop-key.left ≡ (c.in-Some.key.now, c.in-Some.found) ∷ c.next.new.self = c.in-Some.ensures.steps in
    let inside : is_out c.args.start.now.account (option_map (λ t. t.now) c.args.end) c.in-Some.key.now ≡ false = sym c.is_out.ensures ∙ c.if-is_out.false in
    let left : (filter_map (shown c.args.start.now.account (option_map (λ t. t.now) c.args.end)) c.loop-key.left) ≡ (c.name_of-name.result.now, c.in-Some.found) ∷ (filter_map (shown c.args.start.now.account (option_map (λ t. t.now) c.args.end)) c.next.new.self) = ap (filter_map (shown c.args.start.now.account (option_map (λ t. t.now) c.args.end))) raw ∙ at_in c.args.start.now.account (option_map (λ t. t.now) c.args.end) (c.in-Some.key.now, c.in-Some.found) c.next.new.self inside ∙ ap (λ (name : List ℕ). (name, c.in-Some.found) ∷ (filter_map (shown c.args.start.now.account (option_map (λ t. t.now) c.args.end)) c.next.new.self)) (sym c.name_of-name.ensures) in
    let begins : begins_with c.name_of-name.result.now c.args.prefix.now ≡ false = sym c.begins_with.ensures ∙ c.if-not-begins_with.true in
    let past : is_name_from c.args.prefix.now c.name_of-name.result.now ≡ true = sym c.is_from.ensures ∙ c.if-is_from.true in
    to_page shown_container c.args.start.now.account (option_map (λ t. t.now) c.args.end) c.args.prefix.now c.args.start.now.container c.args.rows.now c.new-then-is_from.result (record { entries = c.loop-key.entries.items; next = None }) c.args.max (past_prefix shown_container c.args.prefix.now [] c.args.start.now.container (listed_rows shown_container c.args.start.now.account (option_map (λ t. t.now) c.args.end) c.args.prefix.now c.args.start.now.container c.args.rows.now) (listed_up shown_container c.args.start.now.account (option_map (λ t. t.now) c.args.end) c.args.prefix.now c.args.start.now.container c.args.rows.now) c.loop-key.entries.items (filter_map (shown c.args.start.now.account (option_map (λ t. t.now) c.args.end)) c.loop-key.left) c.name_of-name.result.now c.in-Some.found (filter_map (shown c.args.start.now.account (option_map (λ t. t.now) c.args.end)) c.next.new.self) c.loop-key.invariant.at left (record { entries = c.loop-key.entries.items; next = None }) c.args.max begins past c.loop-key.invariant.room refl refl) c.new-then-is_from.ensures.entries c.new-then-is_from.ensures.next

pub loop-key-preserved-then-not-begins_with : goal.loop-key-preserved-then-not-begins_with
loop-key-preserved-then-not-begins_with c =
    let raw : c.loop-key.left ≡ (c.in-Some.key.now, c.in-Some.found) ∷ c.next.new.self = c.in-Some.ensures.steps in
    let inside : is_out c.args.start.now.account (option_map (λ t. t.now) c.args.end) c.in-Some.key.now ≡ false = sym c.is_out.ensures ∙ c.if-is_out.false in
    let left : (filter_map (shown c.args.start.now.account (option_map (λ t. t.now) c.args.end)) c.loop-key.left) ≡ (c.name_of-name.result.now, c.in-Some.found) ∷ (filter_map (shown c.args.start.now.account (option_map (λ t. t.now) c.args.end)) c.next.new.self) = ap (filter_map (shown c.args.start.now.account (option_map (λ t. t.now) c.args.end))) raw ∙ at_in c.args.start.now.account (option_map (λ t. t.now) c.args.end) (c.in-Some.key.now, c.in-Some.found) c.next.new.self inside ∙ ap (λ (name : List ℕ). (name, c.in-Some.found) ∷ (filter_map (shown c.args.start.now.account (option_map (λ t. t.now) c.args.end)) c.next.new.self)) (sym c.name_of-name.ensures) in
    let from : FromKey c.args.start.now ((c.in-Some.key.now, c.in-Some.found) ∷ c.next.new.self) = subst (FromKey c.args.start.now) raw c.loop-key.invariant.from in
    let order : InKeyOrder ((c.in-Some.key.now, c.in-Some.found) ∷ c.next.new.self) = subst InKeyOrder raw c.loop-key.invariant.order in
    let begins : begins_with c.name_of-name.result.now c.args.prefix.now ≡ false = sym c.begins_with.ensures ∙ c.if-not-begins_with.true in
    record { can = tt; ends = tt; at = skip_without shown_container c.args.prefix.now [] c.args.start.now.container (listed_rows shown_container c.args.start.now.account (option_map (λ t. t.now) c.args.end) c.args.prefix.now c.args.start.now.container c.args.rows.now) (listed_up shown_container c.args.start.now.account (option_map (λ t. t.now) c.args.end) c.args.prefix.now c.args.start.now.container c.args.rows.now) c.loop-key.entries.items (filter_map (shown c.args.start.now.account (option_map (λ t. t.now) c.args.end)) c.loop-key.left) c.name_of-name.result.now c.in-Some.found (filter_map (shown c.args.start.now.account (option_map (λ t. t.now) c.args.end)) c.next.new.self) c.loop-key.invariant.at left begins; from = from.1; order = order.1; room = c.loop-key.invariant.room }

pub loop-key-preserved-in_default-standing : goal.loop-key-preserved-in_default-standing
loop-key-preserved-in_default-standing c =
    let raw : c.loop-key.left ≡ (c.in-Some.key.now, c.in-Some.found) ∷ c.next.new.self = c.in-Some.ensures.steps in
    let inside : is_out c.args.start.now.account (option_map (λ t. t.now) c.args.end) c.in-Some.key.now ≡ false = sym c.is_out.ensures ∙ c.if-is_out.false in
    let left : (filter_map (shown c.args.start.now.account (option_map (λ t. t.now) c.args.end)) c.loop-key.left) ≡ (c.name_of-name.result.now, c.in-Some.found) ∷ (filter_map (shown c.args.start.now.account (option_map (λ t. t.now) c.args.end)) c.next.new.self) = ap (filter_map (shown c.args.start.now.account (option_map (λ t. t.now) c.args.end))) raw ∙ at_in c.args.start.now.account (option_map (λ t. t.now) c.args.end) (c.in-Some.key.now, c.in-Some.found) c.next.new.self inside ∙ ap (λ (name : List ℕ). (name, c.in-Some.found) ∷ (filter_map (shown c.args.start.now.account (option_map (λ t. t.now) c.args.end)) c.next.new.self)) (sym c.name_of-name.ensures) in
    let from : FromKey c.args.start.now ((c.in-Some.key.now, c.in-Some.found) ∷ c.next.new.self) = subst (FromKey c.args.start.now) raw c.loop-key.invariant.from in
    let order : InKeyOrder ((c.in-Some.key.now, c.in-Some.found) ∷ c.next.new.self) = subst InKeyOrder raw c.loop-key.invariant.order in
    let none : shown_container c.in-Some.found ≡ None = ap (option_map shown_standing) (sym c.standing.ensures ∙ ap option_copied c.in_default-standing.is) in
    record { can = tt; ends = tt; at = skip_none shown_container c.args.prefix.now [] c.args.start.now.container (listed_rows shown_container c.args.start.now.account (option_map (λ t. t.now) c.args.end) c.args.prefix.now c.args.start.now.container c.args.rows.now) (listed_up shown_container c.args.start.now.account (option_map (λ t. t.now) c.args.end) c.args.prefix.now c.args.start.now.container c.args.rows.now) c.loop-key.entries.items (filter_map (shown c.args.start.now.account (option_map (λ t. t.now) c.args.end)) c.loop-key.left) c.name_of-name.result.now c.in-Some.found (filter_map (shown c.args.start.now.account (option_map (λ t. t.now) c.args.end)) c.next.new.self) c.loop-key.invariant.at left none; from = from.1; order = order.1; room = c.loop-key.invariant.room }

pub returns-then-len-max : goal.returns-then-len-max
returns-then-len-max c =
    let raw : c.loop-key.left ≡ (c.in-Some.key.now, c.in-Some.found) ∷ c.next.new.self = c.in-Some.ensures.steps in
    let inside : is_out c.args.start.now.account (option_map (λ t. t.now) c.args.end) c.in-Some.key.now ≡ false = sym c.is_out.ensures ∙ c.if-is_out.false in
    let left : (filter_map (shown c.args.start.now.account (option_map (λ t. t.now) c.args.end)) c.loop-key.left) ≡ (c.name_of-name.result.now, c.in-Some.found) ∷ (filter_map (shown c.args.start.now.account (option_map (λ t. t.now) c.args.end)) c.next.new.self) = ap (filter_map (shown c.args.start.now.account (option_map (λ t. t.now) c.args.end))) raw ∙ at_in c.args.start.now.account (option_map (λ t. t.now) c.args.end) (c.in-Some.key.now, c.in-Some.found) c.next.new.self inside ∙ ap (λ (name : List ℕ). (name, c.in-Some.found) ∷ (filter_map (shown c.args.start.now.account (option_map (λ t. t.now) c.args.end)) c.next.new.self)) (sym c.name_of-name.ensures) in
    let begins : begins_with c.name_of-name.result.now c.args.prefix.now ≡ true = sym c.begins_with.ensures ∙ c.if-not-begins_with.false in
    let value : shown_container c.in-Some.found ≡ Some (shown_standing c.in-Some-standing.standing.now) = ap (option_map shown_standing) (sym c.standing.ensures ∙ ap option_copied c.in-Some-standing.is) in
    let at : is_name_from c.args.start.now.container c.name_of-name.result.now ≡ true = at_name shown_container c.args.prefix.now [] c.args.start.now.container (listed_rows shown_container c.args.start.now.account (option_map (λ t. t.now) c.args.end) c.args.prefix.now c.args.start.now.container c.args.rows.now) (listed_up shown_container c.args.start.now.account (option_map (λ t. t.now) c.args.end) c.args.prefix.now c.args.start.now.container c.args.rows.now) c.loop-key.entries.items (filter_map (shown c.args.start.now.account (option_map (λ t. t.now) c.args.end)) c.loop-key.left) c.name_of-name.result.now c.in-Some.found (filter_map (shown c.args.start.now.account (option_map (λ t. t.now) c.args.end)) c.next.new.self) c.loop-key.invariant.at left in
    let full : length c.loop-key.entries.items ≡ c.args.max = omega (arith, c.loop-key.invariant.room) in
    to_page shown_container c.args.start.now.account (option_map (λ t. t.now) c.args.end) c.args.prefix.now c.args.start.now.container c.args.rows.now c.new-then-len-max.result (record { entries = c.loop-key.entries.items; next = Some c.name_of-name.result.now }) c.args.max (full_name shown_container c.args.prefix.now [] c.args.start.now.container (listed_rows shown_container c.args.start.now.account (option_map (λ t. t.now) c.args.end) c.args.prefix.now c.args.start.now.container c.args.rows.now) (listed_up shown_container c.args.start.now.account (option_map (λ t. t.now) c.args.end) c.args.prefix.now c.args.start.now.container c.args.rows.now) c.loop-key.entries.items (filter_map (shown c.args.start.now.account (option_map (λ t. t.now) c.args.end)) c.loop-key.left) c.name_of-name.result.now c.in-Some.found (filter_map (shown c.args.start.now.account (option_map (λ t. t.now) c.args.end)) c.next.new.self) c.loop-key.invariant.at left (record { entries = c.loop-key.entries.items; next = Some c.name_of-name.result.now }) c.args.max (shown_standing c.in-Some-standing.standing.now) value begins refl at full refl refl) c.new-then-len-max.ensures.entries c.new-then-len-max.ensures.next

pub loop-key-preserved : goal.loop-key-preserved
loop-key-preserved c =
    let raw : c.loop-key.left ≡ (c.in-Some.key.now, c.in-Some.found) ∷ c.next.new.self = c.in-Some.ensures.steps in
    let inside : is_out c.args.start.now.account (option_map (λ t. t.now) c.args.end) c.in-Some.key.now ≡ false = sym c.is_out.ensures ∙ c.if-is_out.false in
    let left : (filter_map (shown c.args.start.now.account (option_map (λ t. t.now) c.args.end)) c.loop-key.left) ≡ (c.name_of-name.result.now, c.in-Some.found) ∷ (filter_map (shown c.args.start.now.account (option_map (λ t. t.now) c.args.end)) c.next.new.self) = ap (filter_map (shown c.args.start.now.account (option_map (λ t. t.now) c.args.end))) raw ∙ at_in c.args.start.now.account (option_map (λ t. t.now) c.args.end) (c.in-Some.key.now, c.in-Some.found) c.next.new.self inside ∙ ap (λ (name : List ℕ). (name, c.in-Some.found) ∷ (filter_map (shown c.args.start.now.account (option_map (λ t. t.now) c.args.end)) c.next.new.self)) (sym c.name_of-name.ensures) in
    let from : FromKey c.args.start.now ((c.in-Some.key.now, c.in-Some.found) ∷ c.next.new.self) = subst (FromKey c.args.start.now) raw c.loop-key.invariant.from in
    let order : InKeyOrder ((c.in-Some.key.now, c.in-Some.found) ∷ c.next.new.self) = subst InKeyOrder raw c.loop-key.invariant.order in
    let begins : begins_with c.name_of-name.result.now c.args.prefix.now ≡ true = sym c.begins_with.ensures ∙ c.if-not-begins_with.false in
    let value : shown_container c.in-Some.found ≡ Some (shown_standing c.in-Some-standing.standing.now) = ap (option_map shown_standing) (sym c.standing.ensures ∙ ap option_copied c.in-Some-standing.is) in
    let at : is_name_from c.args.start.now.container c.name_of-name.result.now ≡ true = at_name shown_container c.args.prefix.now [] c.args.start.now.container (listed_rows shown_container c.args.start.now.account (option_map (λ t. t.now) c.args.end) c.args.prefix.now c.args.start.now.container c.args.rows.now) (listed_up shown_container c.args.start.now.account (option_map (λ t. t.now) c.args.end) c.args.prefix.now c.args.start.now.container c.args.rows.now) c.loop-key.entries.items (filter_map (shown c.args.start.now.account (option_map (λ t. t.now) c.args.end)) c.loop-key.left) c.name_of-name.result.now c.in-Some.found (filter_map (shown c.args.start.now.account (option_map (λ t. t.now) c.args.end)) c.next.new.self) c.loop-key.invariant.at left in
    let put : c.push.new.self.items ≡ c.loop-key.entries.items ++ (c.name_of-name.result.now, Some (shown_standing c.in-Some-standing.standing.now)) ∷ [] = c.in_ok-push.ensures.items ∙ ap (λ (item : Entry ShownContainer). c.loop-key.entries.items ++ item ∷ []) c.in_ok-of.ensures in
    record { can = tt; ends = tt; at = take_name shown_container c.args.prefix.now [] c.args.start.now.container (listed_rows shown_container c.args.start.now.account (option_map (λ t. t.now) c.args.end) c.args.prefix.now c.args.start.now.container c.args.rows.now) (listed_up shown_container c.args.start.now.account (option_map (λ t. t.now) c.args.end) c.args.prefix.now c.args.start.now.container c.args.rows.now) c.loop-key.entries.items (filter_map (shown c.args.start.now.account (option_map (λ t. t.now) c.args.end)) c.loop-key.left) c.name_of-name.result.now c.in-Some.found (filter_map (shown c.args.start.now.account (option_map (λ t. t.now) c.args.end)) c.next.new.self) c.loop-key.invariant.at left (shown_standing c.in-Some-standing.standing.now) value begins refl at c.push.new.self.items put; from = from.1; order = order.1; room = omega (arith, ap (λ (items : List (Entry ShownContainer)). length items) put, length-append c.loop-key.entries.items ((c.name_of-name.result.now, Some (shown_standing c.in-Some-standing.standing.now)) ∷ [])) }

pub returns : goal.returns
returns c =
    to_page shown_container c.args.start.now.account (option_map (λ t. t.now) c.args.end) c.args.prefix.now c.args.start.now.container c.args.rows.now c.new-2.result (record { entries = c.loop-key.entries.items; next = None }) c.args.max (all_walked shown_container c.args.prefix.now [] c.args.start.now.container (listed_rows shown_container c.args.start.now.account (option_map (λ t. t.now) c.args.end) c.args.prefix.now c.args.start.now.container c.args.rows.now) (listed_up shown_container c.args.start.now.account (option_map (λ t. t.now) c.args.end) c.args.prefix.now c.args.start.now.container c.args.rows.now) (record { entries = c.loop-key.entries.items; next = None }) c.args.max c.loop-key.entries.items (filter_map (shown c.args.start.now.account (option_map (λ t. t.now) c.args.end)) c.loop-key.left) c.loop-key.invariant.at (ap (filter_map (shown c.args.start.now.account (option_map (λ t. t.now) c.args.end))) c.in_default.ensures.steps.0) c.loop-key.invariant.room refl refl) c.new-2.ensures.entries c.new-2.ensures.next
