-- How many bytes an extent of two or more blocks may have: each call keeps it.
use Rattle.std.proofs.Common.{◌≡◌, ◌∙◌, ℕ, Result, Ok, Err, sym, ap, subst}
use Rattle.std.specs.Prelude.{OnErr, OnOk}
use Rattle.stream_manager.specs.Streams.{Streamed}
use Rattle.partition_stream.specs.Compactions.{HaveLimit}
use Rattle.partition_stream.specs.Streams.{HaveSameLimits, ThreeStreams}

abbrev limit_of : Streamed → ℕ
limit_of s = s.limit

module _ (n : ℕ) (s t : ThreeStreams) where
  -- a limit that is kept
  pub limit_kept : HaveLimit n s → HaveSameLimits s t → HaveLimit n t
  limit_kept old same = record { log = same.log ∙ old.log; blobs = same.blobs ∙ old.blobs; rows = same.rows ∙ old.rows }

  -- the log and the rows are new, or nothing is
  pub checkpoint_limit : {T E : Type 0} (r : Result T E) → HaveLimit n s → t.blobs ≡ s.blobs → OnOk r ((t.log.limit ≡ n) × (t.rows.limit ≡ n)) → OnErr r (t ≡ s) → HaveLimit n t
  checkpoint_limit (Ok x) old blobs made same = record { log = made.0; blobs = ap limit_of blobs ∙ old.blobs; rows = made.1 }
  checkpoint_limit (Err e) old blobs made same = subst (HaveLimit n) (sym same) old

-- content was put, and a change was logged
pub logged_limits : (s t u : ThreeStreams) → t.log ≡ s.log → t.rows ≡ s.rows → t.blobs.limit ≡ s.blobs.limit → u.blobs ≡ t.blobs → u.rows ≡ t.rows → u.log.limit ≡ t.log.limit → HaveSameLimits s u
logged_limits s t u log rows limit blobs rows_again log_limit = record {
  log = log_limit ∙ ap limit_of log;
  blobs = ap limit_of blobs ∙ limit;
  rows = ap limit_of rows_again ∙ ap limit_of rows;
}

-- content was not put
pub put_limits : (s t : ThreeStreams) → t.log ≡ s.log → t.rows ≡ s.rows → t.blobs.limit ≡ s.blobs.limit → HaveSameLimits s t
put_limits s t log rows limit = record { log = ap limit_of log; blobs = limit; rows = ap limit_of rows }

-- the log was settled
pub settled_limits : (s t : ThreeStreams) → t.blobs ≡ s.blobs → t.rows ≡ s.rows → t.log.limit ≡ s.log.limit → HaveSameLimits s t
settled_limits s t blobs rows limit = record { log = limit; blobs = ap limit_of blobs; rows = ap limit_of rows }
