use Rattle.std.proofs.Common.{◌≡◌, IfOk, sym, ◌∙◌, subst, true}
use Rattle.std.specs.FinMap.{entries}
use Rattle.std.specs.Option.{option_copied, option_map}
use Rattle.stamp_values.specs.Trees.{is_name_from}
use Rattle.list_pages.specs.Containers.{page_of_account}
use Rattle.list_pages.specs.Lists.{ShownContainer, given, page_of_containers, shown_container}
use Rattle.list_pages.specs.Pages.{PageOf}
use Rattle.list_pages.specs.Seeks.{later_of}
use Rattle.list_pages.proofs.Bounds.{later_from, page_from_later}
use Rattle.list_pages.proofs.containers.container_page.Goals as goal

pub page_from-requires : goal.page_from-requires
page_from-requires c =
    let at : is_name_from (given c.args.page.now.prefix) c.in_ok-start.start.container ≡ true =
    subst (λ t. is_name_from (given c.args.page.now.prefix) t ≡ true) (sym c.in_ok-start.ensures.container) (later_from (given c.args.page.now.prefix) (given c.args.page.now.marker)) in
    subst (λ prefix. is_name_from prefix c.in_ok-start.start.container ≡ true) (sym c.given-prefix.ensures.value) at

pub returns : goal.returns
returns c =
    let start : page_of_account shown_container c.in_ok-start.start.account c.given-prefix.result.now c.in_ok-start.start.container c.args.page.now.max (option_map (λ t. t.now) c.end_of-end.result) (entries c.args.rows.now)
    ≡ page_of_account shown_container c.args.account.now (given c.args.page.now.prefix) (later_of (given c.args.page.now.prefix) (given c.args.page.now.marker)) c.args.page.now.max (option_map (λ t. t.now) c.end_of-end.result) (entries c.args.rows.now) =
    λ i. page_of_account shown_container (c.in_ok-start.ensures.account i) (c.given-prefix.ensures.value i) (c.in_ok-start.ensures.container i) c.args.page.now.max (option_map (λ t. t.now) c.end_of-end.result) (entries c.args.rows.now) in
    let ended : page_of_account shown_container c.args.account.now (given c.args.page.now.prefix) (given c.args.page.now.marker) c.args.page.now.max (option_map (λ t. t.now) c.end_of-end.result) (entries c.args.rows.now)
    ≡ page_of_containers c.args.account.now c.args.page.now (option_copied c.args.bound) c.args.rows.now =
    λ i. page_of_account shown_container c.args.account.now (given c.args.page.now.prefix) (given c.args.page.now.marker) c.args.page.now.max (c.end_of-end.ensures i) (entries c.args.rows.now) in
    let same : page_of_account shown_container c.in_ok-start.start.account c.given-prefix.result.now c.in_ok-start.start.container c.args.page.now.max (option_map (λ t. t.now) c.end_of-end.result) (entries c.args.rows.now)
    ≡ page_of_containers c.args.account.now c.args.page.now (option_copied c.args.bound) c.args.rows.now =
    start
    ∙ page_from_later shown_container c.args.account.now (given c.args.page.now.prefix) (given c.args.page.now.marker) c.args.page.now.max (option_map (λ t. t.now) c.end_of-end.result) (entries c.args.rows.now)
    ∙ ended in
    subst (λ (page : PageOf ShownContainer). IfOk c.page_from.result (λ containers. containers ≡ page)) same c.page_from.ensures
