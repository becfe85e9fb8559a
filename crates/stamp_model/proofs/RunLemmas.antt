-- Requests that are answered in turn.
use Rattle.std.proofs.Common.{◌≡◌, ℕ, suc, List, [], ◌∷◌, ◌++◌, length, Option, Some, None, refl, sym, ap, ◌∙◌}
use Rattle.std.proofs.lemmas.List.Sums.{fold-append}
use Rattle.stamp_types.specs.declared.reply.Reply.{Reply}
use Rattle.stamp_types.specs.declared.rule.Rule.{Rule}
use Rattle.stamp_types.specs.World.{World}
use Rattle.stamp_model.specs.Runs.{Timed, AreAnswered, IsAdmitted, world_after_one, world_after_all, reply_to_one, replies_to}
use Rattle.stamp_model.proofs.ReplyLemmas.{reply-admits, effect-named}

-- if two lists are the same, they have the same element at one position, and the same elements before it and after it
same_position : {X : Type 0} (a c : List X) (x y : X) (b d : List X) → a ++ x ∷ b ≡ c ++ y ∷ d → length a ≡ length c → (a ≡ c) × (x ≡ y) × (b ≡ d)
same_position [] [] x y b d h long = (refl, cc, cc)
same_position [] (z ∷ c) x y b d h long = cc
same_position (z ∷ a) [] x y b d h long = cc
same_position {X} (z ∷ a) (v ∷ c) x y b d h long =
    let first : z ≡ v = cc in
    let less : a ++ x ∷ b ≡ c ++ y ∷ d = cc in
    let short : length a ≡ length c = cc in
    let rest = same_position a c x y b d less short in
    ((λ i. first i ∷ rest.0 i), rest.1, rest.2)

-- the replies to a front part, and the replies to what comes after it
pub replies_to-append : (w : World (List ℕ)) (front rest : List Timed) → replies_to w (front ++ rest) ≡ replies_to w front ++ replies_to (world_after_all w front) rest
replies_to-append w [] rest = refl
replies_to-append w (r ∷ front) rest = ap (λ (l : List Reply). reply_to_one w r ∷ l) (replies_to-append (world_after_one w r) front rest)

-- there are as many replies as requests
pub length-replies_to : (w : World (List ℕ)) (rs : List Timed) → length (replies_to w rs) ≡ length rs
length-replies_to w [] = refl
length-replies_to w (r ∷ rs) = ap (λ n. suc n) (length-replies_to (world_after_one w r) rs)

module _ (w : World (List ℕ)) (front : List Timed) (r : Timed) (rest : List Timed) where
  -- the containers before the request
  abbrev then_held : World (List ℕ)
  then_held = world_after_all w front

  -- the containers after one more request
  one_more : world_after_all w (front ++ r ∷ []) ≡ world_after_one then_held r
  one_more = fold-append world_after_one w front (r ∷ [])

  -- these replies answer the requests
  pub answered_in_turn : AreAnswered w front r rest (replies_to w front) (reply_to_one then_held r) (replies_to (world_after_all w (front ++ r ∷ [])) rest)
  answered_in_turn = record {
    replies = replies_to-append w front (r ∷ rest)
        ∙ ap (λ (v : World (List ℕ)). replies_to w front ++ reply_to_one then_held r ∷ replies_to v rest) (sym one_more);
    position = length-replies_to w front;
  }

  module _ (before : List Reply) (answer : Reply) (after : List Reply) (given : AreAnswered w front r rest before answer after) where
    -- no other replies answer the requests
    pub answered_so : (before ≡ replies_to w front) × (answer ≡ reply_to_one then_held r) × (after ≡ replies_to (world_after_one then_held r) rest)
    answered_so =
        same_position before (replies_to w front) answer (reply_to_one then_held r) after (replies_to (world_after_one then_held r) rest)
        (sym given.replies ∙ replies_to-append w front (r ∷ rest)) (given.position ∙ sym (length-replies_to w front))

    named_then : (o : Option Rule) → answer.rule ≡ o → (reply_to_one then_held r).rule ≡ o
    named_then o named = ap (λ (a : Reply). a.rule) (sym answered_so.1) ∙ named

    -- if the reply names no rule, the request's own route admits the request
    pub answered_admits : answer.rule ≡ None → IsAdmitted then_held r
    answered_admits none = reply-admits r.keys then_held r.request r.moment r.bound (named_then None none)

    module _ (rule : Rule) (named : answer.rule ≡ Some rule) where
      stays : world_after_one then_held r ≡ then_held
      stays = effect-named r.keys then_held r.request r.moment r.bound rule (named_then (Some rule) named)

      -- without a refused request, all other requests have the replies that they have with it
      pub replies_to-without : replies_to w (front ++ rest) ≡ before ++ after
      replies_to-without =
          replies_to-append w front rest
          ∙ ap (λ (v : World (List ℕ)). replies_to w front ++ replies_to v rest) (sym stays)
          ∙ (λ i. sym answered_so.0 i ++ sym answered_so.2 i)

      -- without a refused request, the containers are the same in the end
      pub world_after_all-without : world_after_all w (front ++ rest) ≡ world_after_all w (front ++ r ∷ rest)
      world_after_all-without =
          fold-append world_after_one w front rest
          ∙ ap (λ (v : World (List ℕ)). world_after_all v rest) (sym stays)
          ∙ sym (fold-append world_after_one w front (r ∷ rest))
