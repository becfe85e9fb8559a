-- The body of a reply to Get Block List (Blob service REST reference, 2012-02-12, Get Block List; Extensible Markup Language
-- 1.0, sections 2.8 and 3.1).
use Rattle.std.specs.Prelude.{ℕ, List, [], ◌++◌, Option, Some, None, codes, decimal, flat_map}
use Rattle.base64_text.specs.Base64.{standard, encode_of}
use Rattle.xml_text.specs.WrittenElements.{opening_text, closing_text, prolog_text}
use Rattle.body_forms.specs.BlockLists.{list_name}
use Rattle.body_forms.specs.declared.written_list.ListedBlock as code

-- a block of a list: its id, and its length in bytes
pub record ListedBlock : Type 0 where
  pub id : List ℕ
  pub len : ℕ

-- a block of the code, as a block
abbrev pub block_view : code.ListedBlock → ListedBlock
block_view b = record { id = b.id.now; len = b.len }

-- the id of a block as it is written
unfoldable pub name_text : List ℕ → List ℕ
name_text id = codes "<Name>" ++ encode_of standard id ++ codes "</Name>"

-- the length of a block as it is written
unfoldable pub size_text : ℕ → List ℕ
size_text len = codes "<Size>" ++ decimal len ++ codes "</Size>"

-- a block as it is written
unfoldable pub block_text : ListedBlock → List ℕ
block_text b = codes "<Block>" ++ name_text b.id ++ size_text b.len ++ codes "</Block>"

-- the blocks as they are written, in an element of this name
unfoldable pub blocks_text : List ℕ → List ListedBlock → List ℕ
blocks_text name blocks = opening_text name ++ flat_map block_text blocks ++ closing_text name

-- the same if the blocks were asked for, and nothing otherwise
abbrev pub asked_text : List ℕ → Option (List ListedBlock) → List ℕ
asked_text name None = []
asked_text name (Some blocks) = blocks_text name blocks

-- both lists as they are written, if they were asked for: the committed blocks come first
unfoldable pub lists_text : Option (List ListedBlock) → Option (List ListedBlock) → List ℕ
lists_text committed uncommitted =
    asked_text (codes "CommittedBlocks") committed ++ asked_text (codes "UncommittedBlocks") uncommitted

-- the body as it is written
unfoldable pub block_list_text : Option (List ListedBlock) → Option (List ListedBlock) → List ℕ
block_list_text committed uncommitted =
    prolog_text ++ opening_text list_name ++ lists_text committed uncommitted ++ closing_text list_name
