use Rattle.std.proofs.Common.{◌+◌, length, drop, ap, arith}
use Rattle.std.specs.List.{concat}
use Rattle.http_front.proofs.Pendings.{body_most, body_sent, on_err, share_cut, share_taken, share_waits, slice_to_end}
use Rattle.http_front.proofs.pending.send_shares.Goals as goal

pub returns-in_err-count-clause-cut : goal.returns-in_err-count-clause-cut
returns-in_err-count-clause-cut g c =
    let size = ap length c.as_slice.ensures in
    on_err _ _ (share_cut c.args.writer.now c.loop-share.writer c.send_on.new.self (drop c.args.taken (concat c.args.shares.now)) c.args.shares.now c.loop-share.share-index c.loop-share.skip c.min-start.result
    c.loop-share.invariant.taken.0 0 c.share-item.result c.as_slice.result.now _ c.loop-share.invariant.taken.1 c.loop-share-test.true c.share-item.is c.as_slice.ensures (omega arith)
    (slice_to_end c.min-start.result c.as_slice.result.now) c.in_err-count.ensures.failed c.in_err-count.ensures.cut)

pub overflow_add-all : goal.overflow_add-all
overflow_add-all g c =
    let size = ap length c.as_slice.ensures in
    let t = share_waits c.args.writer.now c.loop-share.writer c.send_on.new.self (drop c.args.taken (concat c.args.shares.now)) c.args.shares.now c.loop-share.share-index c.loop-share.skip c.min-start.result
    c.loop-share.invariant.taken.0 c.in_ok-count.count c.share-item.result c.as_slice.result.now _ c.loop-share.invariant.taken.1 c.loop-share-test.true c.share-item.is c.as_slice.ensures (omega arith)
    (slice_to_end c.min-start.result c.as_slice.result.now) c.in_ok-count.ensures.taken.0 c.in_ok-count.ensures.output c.in_ok-count.ensures.taken.1 in
    let most = body_most c.args.writer.now c.send_on.new.self (concat c.args.shares.now) _ c.args.taken _ (c.loop-share.all + c.in_ok-count.count) t (let all = c.loop-share.invariant.taken.2 in omega arith) c.requires.within in
    omega arith

pub returns-then-count-part-clause-most : goal.returns-then-count-part-clause-most
returns-then-count-part-clause-most g c =
    let size = ap length c.as_slice.ensures in
    let t = share_waits c.args.writer.now c.loop-share.writer c.send_on.new.self (drop c.args.taken (concat c.args.shares.now)) c.args.shares.now c.loop-share.share-index c.loop-share.skip c.min-start.result
    c.loop-share.invariant.taken.0 c.in_ok-count.count c.share-item.result c.as_slice.result.now _ c.loop-share.invariant.taken.1 c.loop-share-test.true c.share-item.is c.as_slice.ensures (omega arith)
    (slice_to_end c.min-start.result c.as_slice.result.now) c.in_ok-count.ensures.taken.0 c.in_ok-count.ensures.output c.in_ok-count.ensures.taken.1 in
    body_most c.args.writer.now c.send_on.new.self (concat c.args.shares.now) _ c.args.taken _ _ t (let all = c.loop-share.invariant.taken.2 in omega arith) c.requires.within

pub returns-then-count-part-clause-sent : goal.returns-then-count-part-clause-sent
returns-then-count-part-clause-sent g c =
    let size = ap length c.as_slice.ensures in
    let t = share_waits c.args.writer.now c.loop-share.writer c.send_on.new.self (drop c.args.taken (concat c.args.shares.now)) c.args.shares.now c.loop-share.share-index c.loop-share.skip c.min-start.result
    c.loop-share.invariant.taken.0 c.in_ok-count.count c.share-item.result c.as_slice.result.now _ c.loop-share.invariant.taken.1 c.loop-share-test.true c.share-item.is c.as_slice.ensures (omega arith)
    (slice_to_end c.min-start.result c.as_slice.result.now) c.in_ok-count.ensures.taken.0 c.in_ok-count.ensures.output c.in_ok-count.ensures.taken.1 in
    body_sent c.args.writer.now c.send_on.new.self (concat c.args.shares.now) _ c.args.taken _ _ t (let all = c.loop-share.invariant.taken.2 in omega arith)

pub loop-share-preserved : goal.loop-share-preserved
loop-share-preserved g c =
    let size = ap length c.as_slice.ensures in record {
      works = c.in_ok-count.ensures.output;
      taken = (
        c.loop-share.invariant.taken.0 + c.in_ok-count.count,
        share_taken c.args.writer.now c.loop-share.writer c.send_on.new.self (drop c.args.taken (concat c.args.shares.now)) c.args.shares.now c.loop-share.share-index c.loop-share.skip c.min-start.result
            c.loop-share.invariant.taken.0 c.in_ok-count.count c.share-item.result c.as_slice.result.now _ c.loop-share.invariant.taken.1 c.loop-share-test.true c.share-item.is c.as_slice.ensures (omega arith)
            (slice_to_end c.min-start.result c.as_slice.result.now) c.in_ok-count.ensures.taken.0 (omega arith) c.in_ok-count.ensures.output c.in_ok-count.ensures.taken.1,
        let all = c.loop-share.invariant.taken.2 in omega arith,
      );
    }

pub returns-clause-most : goal.returns-clause-most
returns-clause-most g c =
    body_most c.args.writer.now c.loop-share.writer (concat c.args.shares.now) _ c.args.taken c.loop-share.invariant.taken.0 c.loop-share.all c.loop-share.invariant.taken.1 c.loop-share.invariant.taken.2 c.requires.within

pub returns-clause-sent : goal.returns-clause-sent
returns-clause-sent g c =
    body_sent c.args.writer.now c.loop-share.writer (concat c.args.shares.now) _ c.args.taken c.loop-share.invariant.taken.0 c.loop-share.all c.loop-share.invariant.taken.1 c.loop-share.invariant.taken.2
