use Rattle.request_form.specs.HeadMetadata.{meta_fields}
use Rattle.request_form.proofs.OrderLemmas.{all_kept, as_sent, rising}
use Rattle.request_form.proofs.head_laws.metadata_are_in_the_order_of_their_names.Goals as goal

pub returns : goal.returns
returns c = λ fields. record {
  all_kept = all_kept (meta_fields fields);
  rising = rising (meta_fields fields);
  as_sent = as_sent (meta_fields fields);
}
