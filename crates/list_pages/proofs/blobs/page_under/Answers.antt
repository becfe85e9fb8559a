use Rattle.std.proofs.Common.{◌≡◌, length, true, false, List, [], ◌∷◌, ◌++◌, Some, None, sym, ap, ◌∙◌, arith, length-append}
use Rattle.std.specs.List.{filter}
use Rattle.std.specs.Option.{option_map}
use Rattle.std.specs.FinMap.{entries, entries_sorted}
use Rattle.stamp_values.specs.Trees.{is_name_from}
use Rattle.list_pages.specs.Lists.{ShownBlob, shown_row}
use Rattle.list_pages.specs.Names.{begins_with, group_of}
use Rattle.list_pages.specs.Pages.{Entry}
use Rattle.list_pages.specs.Seeks.{later_of, raised}
use Rattle.list_pages.proofs.Cuts.{group_can}
use Rattle.list_pages.proofs.Lists.{rises}
use Rattle.list_pages.proofs.Steps.{all_walked, at_name, at_start, fewer, full_group, full_name, past_prefix, skip_group, skip_none, skip_without, take_group, take_name}
use Rattle.list_pages.proofs.blobs.page_under.Goals as goal

pub loop-name-init : goal.loop-name-init
loop-name-init c =
    let start : c.in_ok-start.start.items ≡ later_of c.args.prefix.now c.args.marker.now = c.in_ok-start.ensures in
    record { can = tt; ends = tt; at = at_start shown_row c.args.prefix.now c.args.delimiter.now c.args.marker.now (entries c.args.found.now.blobs) (rises (entries c.args.found.now.blobs) (entries_sorted c.args.found.now.blobs)) c.new-entries.result.items c.blobs_from-left.result c.in_ok-start.start.items c.new-entries.ensures.items start c.blobs_from-left.ensures; room = omega (arith, ap (λ (items : List (Entry ShownBlob)). length items) c.new-entries.ensures.items) }

pub returns-then-is_from : goal.returns-then-is_from
returns-then-is_from c =
    let left : c.loop-name.left ≡ (c.in-Some.name.now, c.in-Some.blob) ∷ c.next.new.self = c.in-Some.ensures.steps in
    let begins : begins_with c.in-Some.name.now c.args.prefix.now ≡ false = sym c.begins_with.ensures ∙ c.if-not-begins_with.true in
    let past : is_name_from c.args.prefix.now c.in-Some.name.now ≡ true = sym c.is_from.ensures ∙ c.if-is_from.true in
    past_prefix shown_row c.args.prefix.now c.args.delimiter.now c.args.marker.now (entries c.args.found.now.blobs) (rises (entries c.args.found.now.blobs) (entries_sorted c.args.found.now.blobs)) c.loop-name.entries.items c.loop-name.left c.in-Some.name.now c.in-Some.blob c.next.new.self c.loop-name.invariant.at left c.new.result c.args.max begins past c.loop-name.invariant.room c.new.ensures.entries c.new.ensures.next

pub loop-name-preserved-then-not-begins_with : goal.loop-name-preserved-then-not-begins_with
loop-name-preserved-then-not-begins_with c =
    let left : c.loop-name.left ≡ (c.in-Some.name.now, c.in-Some.blob) ∷ c.next.new.self = c.in-Some.ensures.steps in
    let begins : begins_with c.in-Some.name.now c.args.prefix.now ≡ false = sym c.begins_with.ensures ∙ c.if-not-begins_with.true in
    record { can = tt; ends = tt; at = skip_without shown_row c.args.prefix.now c.args.delimiter.now c.args.marker.now (entries c.args.found.now.blobs) (rises (entries c.args.found.now.blobs) (entries_sorted c.args.found.now.blobs)) c.loop-name.entries.items c.loop-name.left c.in-Some.name.now c.in-Some.blob c.next.new.self c.loop-name.invariant.at left begins; room = c.loop-name.invariant.room }

pub loop-name-preserved-in_default-listed_blob : goal.loop-name-preserved-in_default-listed_blob
loop-name-preserved-in_default-listed_blob c =
    let left : c.loop-name.left ≡ (c.in-Some.name.now, c.in-Some.blob) ∷ c.next.new.self = c.in-Some.ensures.steps in
    let none : shown_row c.in-Some.blob ≡ None = sym c.listed_blob.ensures ∙ c.in_default-listed_blob.is in
    record { can = tt; ends = tt; at = skip_none shown_row c.args.prefix.now c.args.delimiter.now c.args.marker.now (entries c.args.found.now.blobs) (rises (entries c.args.found.now.blobs) (entries_sorted c.args.found.now.blobs)) c.loop-name.entries.items c.loop-name.left c.in-Some.name.now c.in-Some.blob c.next.new.self c.loop-name.invariant.at left none; room = c.loop-name.invariant.room }

pub returns-then-len-max : goal.returns-then-len-max
returns-then-len-max c =
    let left : c.loop-name.left ≡ (c.in-Some.name.now, c.in-Some.blob) ∷ c.next.new.self = c.in-Some.ensures.steps in
    let begins : begins_with c.in-Some.name.now c.args.prefix.now ≡ true = sym c.begins_with.ensures ∙ c.if-not-begins_with.false in
    let value : shown_row c.in-Some.blob ≡ Some c.in-Some-listed_blob.shown = sym c.listed_blob.ensures ∙ c.in-Some-listed_blob.is in
    let alone : group_of c.args.prefix.now c.args.delimiter.now c.in-Some.name.now ≡ None = sym c.group_of.ensures ∙ ap (option_map (λ t. t.now)) c.in-None.is in
    let at : is_name_from c.args.marker.now c.in-Some.name.now ≡ true = at_name shown_row c.args.prefix.now c.args.delimiter.now c.args.marker.now (entries c.args.found.now.blobs) (rises (entries c.args.found.now.blobs) (entries_sorted c.args.found.now.blobs)) c.loop-name.entries.items c.loop-name.left c.in-Some.name.now c.in-Some.blob c.next.new.self c.loop-name.invariant.at left in
    let full : length c.loop-name.entries.items ≡ c.args.max = omega (arith, c.loop-name.invariant.room) in
    full_name shown_row c.args.prefix.now c.args.delimiter.now c.args.marker.now (entries c.args.found.now.blobs) (rises (entries c.args.found.now.blobs) (entries_sorted c.args.found.now.blobs)) c.loop-name.entries.items c.loop-name.left c.in-Some.name.now c.in-Some.blob c.next.new.self c.loop-name.invariant.at left c.new-then-len-max.result c.args.max c.in-Some-listed_blob.shown value begins alone at full c.new-then-len-max.ensures.entries c.new-then-len-max.ensures.next

pub loop-name-preserved-in_ok-push-in-None : goal.loop-name-preserved-in_ok-push-in-None
loop-name-preserved-in_ok-push-in-None c =
    let left : c.loop-name.left ≡ (c.in-Some.name.now, c.in-Some.blob) ∷ c.next.new.self = c.in-Some.ensures.steps in
    let begins : begins_with c.in-Some.name.now c.args.prefix.now ≡ true = sym c.begins_with.ensures ∙ c.if-not-begins_with.false in
    let value : shown_row c.in-Some.blob ≡ Some c.in-Some-listed_blob.shown = sym c.listed_blob.ensures ∙ c.in-Some-listed_blob.is in
    let alone : group_of c.args.prefix.now c.args.delimiter.now c.in-Some.name.now ≡ None = sym c.group_of.ensures ∙ ap (option_map (λ t. t.now)) c.in-None.is in
    let at : is_name_from c.args.marker.now c.in-Some.name.now ≡ true = at_name shown_row c.args.prefix.now c.args.delimiter.now c.args.marker.now (entries c.args.found.now.blobs) (rises (entries c.args.found.now.blobs) (entries_sorted c.args.found.now.blobs)) c.loop-name.entries.items c.loop-name.left c.in-Some.name.now c.in-Some.blob c.next.new.self c.loop-name.invariant.at left in
    let put : c.push.new.self.items ≡ c.loop-name.entries.items ++ (c.in-Some.name.now, Some c.in-Some-listed_blob.shown) ∷ [] = c.in_ok-push-in-None.ensures.items ∙ ap (λ (item : Entry ShownBlob). c.loop-name.entries.items ++ item ∷ []) c.in_ok-blob-in-None.ensures in
    record { can = tt; ends = tt; at = take_name shown_row c.args.prefix.now c.args.delimiter.now c.args.marker.now (entries c.args.found.now.blobs) (rises (entries c.args.found.now.blobs) (entries_sorted c.args.found.now.blobs)) c.loop-name.entries.items c.loop-name.left c.in-Some.name.now c.in-Some.blob c.next.new.self c.loop-name.invariant.at left c.in-Some-listed_blob.shown value begins alone at c.push.new.self.items put; room = omega (arith, ap (λ (items : List (Entry ShownBlob)). length items) put, length-append c.loop-name.entries.items ((c.in-Some.name.now, Some c.in-Some-listed_blob.shown) ∷ [])) }

pub after-requires : goal.after-requires
after-requires c =
    let grouped : group_of c.args.prefix.now c.args.delimiter.now c.in-Some.name.now ≡ Some c.in-Some-group_of.group.now = sym c.group_of.ensures ∙ ap (option_map (λ t. t.now)) c.in-Some-group_of.is in
    group_can c.args.prefix.now c.args.delimiter.now c.in-Some.name.now c.in-Some-group_of.group.now c.requires grouped

pub returns-then-len-max-2 : goal.returns-then-len-max-2
returns-then-len-max-2 c =
    let left : c.loop-name.left ≡ (c.in-Some.name.now, c.in-Some.blob) ∷ c.next.new.self = c.in-Some.ensures.steps in
    let begins : begins_with c.in-Some.name.now c.args.prefix.now ≡ true = sym c.begins_with.ensures ∙ c.if-not-begins_with.false in
    let value : shown_row c.in-Some.blob ≡ Some c.in-Some-listed_blob.shown = sym c.listed_blob.ensures ∙ c.in-Some-listed_blob.is in
    let grouped : group_of c.args.prefix.now c.args.delimiter.now c.in-Some.name.now ≡ Some c.in-Some-group_of.group.now = sym c.group_of.ensures ∙ ap (option_map (λ t. t.now)) c.in-Some-group_of.is in
    let at : is_name_from c.args.marker.now c.in-Some-group_of.group.now ≡ true = sym c.is_from-in-Some-group_of.ensures ∙ c.if-is_from-2.true in
    let full : length c.loop-name.entries.items ≡ c.args.max = omega (arith, c.loop-name.invariant.room) in
    full_group shown_row c.args.prefix.now c.args.delimiter.now c.args.marker.now (entries c.args.found.now.blobs) (rises (entries c.args.found.now.blobs) (entries_sorted c.args.found.now.blobs)) c.loop-name.entries.items c.loop-name.left c.in-Some.name.now c.in-Some.blob c.next.new.self c.loop-name.invariant.at left c.new-then-len-max-2.result c.args.max c.in-Some-listed_blob.shown c.in-Some-group_of.group.now value begins grouped at full c.new-then-len-max-2.ensures.entries c.new-then-len-max-2.ensures.next

pub loop-name-smaller-in_ok-push-in-Some-group_of : goal.loop-name-smaller-in_ok-push-in-Some-group_of
loop-name-smaller-in_ok-push-in-Some-group_of c =
    let left : c.loop-name.left ≡ (c.in-Some.name.now, c.in-Some.blob) ∷ c.next.new.self = c.in-Some.ensures.steps in
    let begins : begins_with c.in-Some.name.now c.args.prefix.now ≡ true = sym c.begins_with.ensures ∙ c.if-not-begins_with.false in
    let grouped : group_of c.args.prefix.now c.args.delimiter.now c.in-Some.name.now ≡ Some c.in-Some-group_of.group.now = sym c.group_of.ensures ∙ ap (option_map (λ t. t.now)) c.in-Some-group_of.is in
    let rest : c.in_ok-left-in-Some-group_of.left ≡ filter (λ e. is_name_from (raised c.in-Some-group_of.group.now) e.0) (entries c.args.found.now.blobs) = c.in_ok-left-in-Some-group_of.ensures in
    fewer shown_row c.args.prefix.now c.args.delimiter.now c.args.marker.now (entries c.args.found.now.blobs) (rises (entries c.args.found.now.blobs) (entries_sorted c.args.found.now.blobs)) c.loop-name.entries.items c.loop-name.left c.in-Some.name.now c.in-Some.blob c.next.new.self c.loop-name.invariant.at left c.in-Some-group_of.group.now c.in_ok-left-in-Some-group_of.left begins grouped rest

pub loop-name-preserved-in_ok-push-in-Some-group_of : goal.loop-name-preserved-in_ok-push-in-Some-group_of
loop-name-preserved-in_ok-push-in-Some-group_of c =
    let left : c.loop-name.left ≡ (c.in-Some.name.now, c.in-Some.blob) ∷ c.next.new.self = c.in-Some.ensures.steps in
    let begins : begins_with c.in-Some.name.now c.args.prefix.now ≡ true = sym c.begins_with.ensures ∙ c.if-not-begins_with.false in
    let value : shown_row c.in-Some.blob ≡ Some c.in-Some-listed_blob.shown = sym c.listed_blob.ensures ∙ c.in-Some-listed_blob.is in
    let grouped : group_of c.args.prefix.now c.args.delimiter.now c.in-Some.name.now ≡ Some c.in-Some-group_of.group.now = sym c.group_of.ensures ∙ ap (option_map (λ t. t.now)) c.in-Some-group_of.is in
    let at : is_name_from c.args.marker.now c.in-Some-group_of.group.now ≡ true = sym c.is_from-in-Some-group_of.ensures ∙ c.if-is_from-2.true in
    let rest : c.in_ok-left-in-Some-group_of.left ≡ filter (λ e. is_name_from (raised c.in-Some-group_of.group.now) e.0) (entries c.args.found.now.blobs) = c.in_ok-left-in-Some-group_of.ensures in
    let put : c.push-then-is_from-2.new.self.items ≡ c.loop-name.entries.items ++ (c.in-Some-group_of.group.now, None) ∷ [] = c.in_ok-push-in-Some-group_of.ensures.items ∙ ap (λ (item : Entry ShownBlob). c.loop-name.entries.items ++ item ∷ []) c.in_ok-group-in-Some-group_of.ensures in
    record { can = tt; ends = tt; at = take_group shown_row c.args.prefix.now c.args.delimiter.now c.args.marker.now (entries c.args.found.now.blobs) (rises (entries c.args.found.now.blobs) (entries_sorted c.args.found.now.blobs)) c.loop-name.entries.items c.loop-name.left c.in-Some.name.now c.in-Some.blob c.next.new.self c.loop-name.invariant.at left c.in-Some-listed_blob.shown c.in-Some-group_of.group.now c.in_ok-left-in-Some-group_of.left value begins grouped at rest c.push-then-is_from-2.new.self.items put; room = omega (arith, ap (λ (items : List (Entry ShownBlob)). length items) put, length-append c.loop-name.entries.items ((c.in-Some-group_of.group.now, None) ∷ [])) }

pub loop-name-smaller : goal.loop-name-smaller
loop-name-smaller c =
    let left : c.loop-name.left ≡ (c.in-Some.name.now, c.in-Some.blob) ∷ c.next.new.self = c.in-Some.ensures.steps in
    let begins : begins_with c.in-Some.name.now c.args.prefix.now ≡ true = sym c.begins_with.ensures ∙ c.if-not-begins_with.false in
    let grouped : group_of c.args.prefix.now c.args.delimiter.now c.in-Some.name.now ≡ Some c.in-Some-group_of.group.now = sym c.group_of.ensures ∙ ap (option_map (λ t. t.now)) c.in-Some-group_of.is in
    let rest : c.in_ok-left-in-Some-group_of.left ≡ filter (λ e. is_name_from (raised c.in-Some-group_of.group.now) e.0) (entries c.args.found.now.blobs) = c.in_ok-left-in-Some-group_of.ensures in
    fewer shown_row c.args.prefix.now c.args.delimiter.now c.args.marker.now (entries c.args.found.now.blobs) (rises (entries c.args.found.now.blobs) (entries_sorted c.args.found.now.blobs)) c.loop-name.entries.items c.loop-name.left c.in-Some.name.now c.in-Some.blob c.next.new.self c.loop-name.invariant.at left c.in-Some-group_of.group.now c.in_ok-left-in-Some-group_of.left begins grouped rest

pub loop-name-preserved : goal.loop-name-preserved
loop-name-preserved c =
    let left : c.loop-name.left ≡ (c.in-Some.name.now, c.in-Some.blob) ∷ c.next.new.self = c.in-Some.ensures.steps in
    let begins : begins_with c.in-Some.name.now c.args.prefix.now ≡ true = sym c.begins_with.ensures ∙ c.if-not-begins_with.false in
    let value : shown_row c.in-Some.blob ≡ Some c.in-Some-listed_blob.shown = sym c.listed_blob.ensures ∙ c.in-Some-listed_blob.is in
    let grouped : group_of c.args.prefix.now c.args.delimiter.now c.in-Some.name.now ≡ Some c.in-Some-group_of.group.now = sym c.group_of.ensures ∙ ap (option_map (λ t. t.now)) c.in-Some-group_of.is in
    let at : is_name_from c.args.marker.now c.in-Some-group_of.group.now ≡ false = sym c.is_from-in-Some-group_of.ensures ∙ c.if-is_from-2.false in
    let rest : c.in_ok-left-in-Some-group_of.left ≡ filter (λ e. is_name_from (raised c.in-Some-group_of.group.now) e.0) (entries c.args.found.now.blobs) = c.in_ok-left-in-Some-group_of.ensures in
    record { can = tt; ends = tt; at = skip_group shown_row c.args.prefix.now c.args.delimiter.now c.args.marker.now (entries c.args.found.now.blobs) (rises (entries c.args.found.now.blobs) (entries_sorted c.args.found.now.blobs)) c.loop-name.entries.items c.loop-name.left c.in-Some.name.now c.in-Some.blob c.next.new.self c.loop-name.invariant.at left c.in-Some-listed_blob.shown c.in-Some-group_of.group.now c.in_ok-left-in-Some-group_of.left value begins grouped at rest; room = c.loop-name.invariant.room }

pub returns : goal.returns
returns c =
    all_walked shown_row c.args.prefix.now c.args.delimiter.now c.args.marker.now (entries c.args.found.now.blobs) (rises (entries c.args.found.now.blobs) (entries_sorted c.args.found.now.blobs)) c.new-2.result c.args.max c.loop-name.entries.items c.loop-name.left c.loop-name.invariant.at c.in_default.ensures.steps.0 c.loop-name.invariant.room c.new-2.ensures.entries c.new-2.ensures.next
