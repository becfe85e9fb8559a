-- Pages of the containers of an account (Blob service REST reference, 2012-02-12, "List Containers"; Calder et al., SOSP 2011, section 5.5:
-- a partition has the rows of a range of keys).
use Rattle.std.specs.Prelude.{ℕ, Bool, List, [], cond, not, false, ◌&&◌, nat_eq, Option, None, Some}
use Rattle.std.specs.List.{filter, filter_map}
use Rattle.std.specs.Cmp.Lexicographic.{pointwise}
use Rattle.stamp_values.specs.Trees.{is_name_from}
use Rattle.stamp_values.specs.declared.key.Key.{Key}
use Rattle.list_pages.specs.Pages.{PageOf, listed, from_marker, page, with_value}

-- the containers of an account, by their names
abbrev pub of_account : {X : Type 0} → List ℕ → List (Key × X) → List (List ℕ × X)
of_account account rows = filter_map (λ e. cond (pointwise nat_eq e.0.account account) (Some (e.0.container, e.1)) None) rows

-- the name at which the bound ends the containers of an account: the bound's container, if the bound has this account
abbrev pub end_of : List ℕ → Option Key → Option (List ℕ)
end_of account None = None
end_of account (Some bound) = cond (pointwise nat_eq bound.account account) (Some bound.container) None

-- the names before the end, if there is an end
abbrev pub before_end : {X : Type 0} → Option (List ℕ) → List (List ℕ × X) → List (List ℕ × X)
before_end None names = names
before_end (Some end) names = filter (λ e. not (is_name_from end e.0)) names

-- the first, or otherwise the second
abbrev pub or_else : {X : Type 0} → Option X → Option X → Option X
or_else None other = other
or_else (Some x) other = Some x

-- a page of names that end before an end: if no name is left out, the next page begins at the end
abbrev pub page_to : {X : Type 0} → Option (List ℕ) → List ℕ → List ℕ → ℕ → List (List ℕ × X) → PageOf X
page_to end prefix marker max names =
    record {
      entries = (page max (from_marker marker (listed prefix [] names))).entries;
      next = or_else (page max (from_marker marker (listed prefix [] names))).next end;
    }

-- a page of the containers of an account of which something is shown, before an end
abbrev pub page_of_account : {X Y : Type 0} → (X → Option Y) → List ℕ → List ℕ → List ℕ → ℕ → Option (List ℕ) → List (Key × X) → PageOf Y
page_of_account has account prefix marker max end rows = page_to end prefix marker max (with_value has (before_end end (of_account account rows)))

-- the same in rows that end before a bound
abbrev pub page_of_rows : {X Y : Type 0} → (X → Option Y) → List ℕ → List ℕ → List ℕ → ℕ → Option Key → List (Key × X) → PageOf Y
page_of_rows has account prefix marker max bound rows = page_of_account has account prefix marker max (end_of account bound) rows

-- a name is at the end or past it
abbrev pub is_ended : Option (List ℕ) → List ℕ → Bool
is_ended None name = false
is_ended (Some end) name = is_name_from end name

-- the key has another account, or its container is at the end or past it
abbrev pub is_out : List ℕ → Option (List ℕ) → Key → Bool
is_out account end key = not (pointwise nat_eq key.account account && not (is_ended end key.container))
