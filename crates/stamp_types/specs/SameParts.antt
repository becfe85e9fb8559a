-- Parts in which two requests are equal (Blob service REST reference, 2012-02-12, the page of each operation).
use Rattle.std.specs.Prelude.{◌≡◌}
use Rattle.stamp_types.specs.declared.args.Args.{Args}
use Rattle.stamp_types.specs.declared.ask.Ask.{Ask}

-- the same operation on the same container or blob
pub record HasSameTarget (a b : Ask) : Type 0 where
  pub op : a.op ≡ b.op
  pub key : a.key ≡ b.key
  pub blob : a.blob ≡ b.blob

-- the same conditions, the same MD5 of the body and the same range
pub record HasSameExtras (a b : Args) : Type 0 where
  pub if_match : a.if_match ≡ b.if_match
  pub if_none_match : a.if_none_match ≡ b.if_none_match
  pub content_md5 : a.content_md5 ≡ b.content_md5
  pub range : a.range ≡ b.range

-- the same level, the same id of a block and the same kinds of blocks
pub record HasSameMarks (a b : Args) : Type 0 where
  pub level : a.level ≡ b.level
  pub block : a.block ≡ b.block
  pub kinds : a.kinds ≡ b.kinds
