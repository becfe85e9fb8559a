-- Worked lists of names.
use Rattle.std.specs.Prelude.{ℕ, List, [], ◌∷◌, Some, codes}
use Rattle.stamp_values.specs.declared.key.Key.{Key}
use Rattle.list_pages.specs.Containers.{page_of_rows}
use Rattle.list_pages.specs.Pages.{PageOf, page_of_names}

-- three blobs of 1, 2 and 3 bytes
abbrev pub three_blobs : List (List ℕ × ℕ)
three_blobs = (codes "a.txt", 1) ∷ (codes "d/1", 2) ∷ (codes "d/2", 3) ∷ []

-- a page of these blobs with the delimiter `/`, from a marker on
abbrev pub page_from : List ℕ → ℕ → PageOf ℕ
page_from marker max = page_of_names (λ size. Some size) [] (codes "/") marker max three_blobs

-- the account of the worked container
abbrev pub own_account : List ℕ
own_account = codes "devstoreaccount1"

-- a page of the one container `alpha`, in rows that end before a bound
abbrev pub page_before : Key → PageOf ℕ
page_before bound = page_of_rows (λ size. Some size) own_account [] [] 5000 (Some bound) ((record { account = own_account; container = codes "alpha" }, 1) ∷ [])
