-- The body of Put Block List (Blob service REST reference, 2012-02-12, Put Block List): BlockList round any number of
-- Latest, Committed and Uncommitted, each with the id of a block.
use Rattle.std.specs.Prelude.{ℕ, List, codes}
use Rattle.stamp_values.specs.declared.block.Lookup.{Lookup}
use Rattle.stamp_values.specs.declared.block.Lookup.TheVariants.{Latest, Committed, Uncommitted}
use Rattle.xml_text.specs.Texts.{Token}
use Rattle.xml_text.specs.Elements.{IsTextElement, IsElementOf, IsRoot}
use Rattle.xml_text.specs.Bodies.{IsBody}

-- the name of an entry's element
abbrev pub lookup_name : Lookup → List ℕ
lookup_name Latest = codes "Latest"
lookup_name Committed = codes "Committed"
lookup_name Uncommitted = codes "Uncommitted"

-- the name of the root
abbrev pub list_name : List ℕ
list_name = codes "BlockList"

-- where a block is looked for, and the text of its id
pub record Entry : Type 0 where
  pub lookup : Lookup
  pub id_text : List ℕ

-- the tokens are an entry: an element of a text alone
abbrev pub IsEntry : Entry → List Token → Type 0
IsEntry e tokens = IsTextElement (lookup_name e.lookup) e.id_text tokens

-- the tokens are a block list of these entries
abbrev pub IsBlockList : List Entry → List Token → Type 0
IsBlockList es tokens = IsElementOf list_name IsEntry es tokens

-- the text is a block list of these entries, with white space alone before and after the root
abbrev pub IsBlockListText : List ℕ → List Entry → Type 0
IsBlockListText s es = IsRoot (IsBlockList es) s

-- the body is a block list of these entries
abbrev pub IsBlockListBody : List ℕ → List Entry → Type 0
IsBlockListBody body entries = IsBody (λ rest. IsBlockListText rest entries) body
