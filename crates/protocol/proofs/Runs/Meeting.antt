-- A run in which the premises of the headline hold, and what happens in it.
use Rattle.powers.specs.Power.{is_quorum, is_weak, proposer}
use Rattle.sha2.specs.Sha256.{sha256, digest_bytes, hash_after, compress, rounds, schedule, first_words}
use Rattle.authenticators.specs.Tags.{hmac, is_right}
use Rattle.transactions.specs.Fields.{number_bytes, ranged, limited, repeat, whole}
use Rattle.transactions.specs.Grammar.{tx_fields_spelling, tags_spelling, tx_spelling, value_spelling}
use Rattle.transactions.specs.Reading.{data_at, op_after, op_at, tx_fields_at, tx_kind_at, tx_body_at, tag_count_at, tags_at, tx_at, value_at}
use Rattle.messages.specs.Grammar.{body_spelling, proposal_spelling, vote_spelling, ask_spelling, precommit_spelling, precommits_spelling, bundle_head_spelling, bundle_spelling}
use Rattle.messages.specs.Reading.{valid_round_at, proposal_at, content_after, content_at, vote_at, ask_at, precommit_at, precommits_at, bundle_at, body_after, body_at}
use Rattle.messages.specs.Framing.{message_at, content_of, message_of, message_spelling, frame_spelling}
use Rattle.protocol.specs.Values.{id, fifo, valid}
use Rattle.protocol.specs.Tags.{right, tx_is_right, genuine}
use Rattle.protocol.specs.Messages.{below, tagged}
use Rattle.protocol.specs.Queues.{pick}
use Rattle.protocol.specs.Refusals.{bundle_senders, certified}
use Rattle.protocol.specs.Restart.{restart}
use Rattle.std.proofs.Common.{◌≡◌, ℕ, suc, zero, inl, inr, true, false, List, [], ◌∷◌, take, None, refl, sym, ◌∙◌, subst, arith}
use Rattle.std.specs.List.{AllByRecursion}
use Rattle.powers.specs.Power.{FewLie}
use Rattle.protocol.specs.Tags.{Setting}
use Rattle.protocol.specs.Messages.{◌∈◌, Message, Body, OfTx, OfBundle, Record, sender_of}
use Rattle.protocol.specs.World.{World, Event, run, beginning}
use Rattle.protocol.specs.Values.{Value}
use Rattle.protocol.specs.Premises.{Honesty, FromSender, Genuine, Unforged, IsCorrect, Occurs, EventHas, RecordHas, Distinct, held}
use Rattle.protocol.specs.Examples.{four, greeting, hello, proposal}
use Rattle.protocol.specs.Witness.{honesty, impostor, prevoted, precommitted, asked, answered, Met, meeting, journal_of_0, journal_of_1, PremisesMetLaw}

met : Met (run four (beginning four) meeting)
unfolding is_quorum is_weak proposer sha256 digest_bytes hash_after compress rounds schedule first_words hmac is_right number_bytes ranged limited repeat whole tx_fields_spelling tags_spelling tx_spelling value_spelling data_at op_after op_at tx_fields_at tx_kind_at tx_body_at tag_count_at tags_at tx_at value_at proposal_spelling vote_spelling ask_spelling precommit_spelling precommits_spelling bundle_head_spelling bundle_spelling valid_round_at proposal_at content_after content_at vote_at ask_at precommit_at precommits_at bundle_at body_after body_at message_at content_of message_of message_spelling frame_spelling id fifo valid right tx_is_right genuine below tagged pick bundle_senders certified restart
met = record { sent = refl; delivered_at_0 = refl; delivered_at_1 = refl; saved_by_0 = refl; saved_by_1 = refl; waiting = refl; released = refl }

-- ---- nothing is forged

-- what holds of each by recursion holds of each element
each_of : {X : Type 0} (P : X → Type 0) (xs : List X) → AllByRecursion P xs → (x : X) → x ∈ xs → P x
each_of P [] a x i = absurd i
each_of P (y ∷ ys) a x (inl e) = subst P (sym e) a.0
each_of P (y ∷ ys) a x (inr i) = each_of P ys a.1 x i

-- each of these comes from its sender, whatever its tags
all_from : (c : Setting) (h : Honesty) (w : World) (p : ℕ) (ms : List Message) → AllByRecursion (λ (m : Message). FromSender c h w m.body (sender_of m.body)) ms → Genuine c h w p ms
all_from c h w p ms a m i r = each_of (λ (x : Message). FromSender c h w x.body (sender_of x.body)) ms a m i

-- this doesn't come from its sender, but its tag is wrong
none_right : (c : Setting) (h : Honesty) (w : World) (p : ℕ) (m : Message) → right c p (sender_of m.body) (body_spelling m.body) m.tags ≡ false → Genuine c h w p (m ∷ [])
none_right c h w p m wrong x (inl e) r =
    let there : right c p (sender_of m.body) (body_spelling m.body) m.tags ≡ true = subst (λ (y : Message). right c p (sender_of y.body) (body_spelling y.body) y.tags ≡ true) e r in
    absurd (let f : true ≡ false = sym there ∙ wrong in cc)
none_right c h w p m wrong x (inr i) r = absurd i

-- a body in a frame with right tags, and what it holds of others
abbrev parts : Body → List Message
parts b = tagged four b ∷ held b

abbrev greeted : Message
greeted = record { body = OfTx (record hello { tags = [] }); tags = hello.tags }

-- the world after so many events
abbrev after : ℕ → World
after n = run four (beginning four) (take n meeting)

at_0 : IsCorrect four honesty 0
at_0 = (omega arith, refl)

at_1 : IsCorrect four honesty 1
at_1 = (omega arith, refl)

liar : {X : Type 0} → true ≡ false → X
liar e = absurd (cc)

unforged : Unforged four honesty (beginning four) meeting
unfolding is_quorum is_weak proposer sha256 digest_bytes hash_after compress rounds schedule first_words hmac is_right number_bytes ranged limited repeat whole tx_fields_spelling tags_spelling tx_spelling value_spelling data_at op_after op_at tx_fields_at tx_kind_at tx_body_at tag_count_at tags_at tx_at value_at proposal_spelling vote_spelling ask_spelling precommit_spelling precommits_spelling bundle_head_spelling bundle_spelling valid_round_at proposal_at content_after content_at vote_at ask_at precommit_at precommits_at bundle_at body_after body_at message_at content_of message_of message_spelling frame_spelling id fifo valid right tx_is_right genuine below tagged pick bundle_senders certified restart
unforged = (
  tt,
  tt,
  (
    at_0,
    all_from four honesty (after 1) 0 (greeted ∷ []) (λ _ _. inl refl, tt),
    (
      at_0,
      tt,
      (
        at_0,
        tt,
        (
          at_1,
          tt,
          (
            at_1,
            all_from four honesty (after 5) 1 (parts (proposal 0 None greeting)) (λ _ _. inl (inr (inl refl)), (λ _ _. inl refl, tt)),
            (
              at_1,
              tt,
              (
                at_0,
                none_right four honesty (after 7) 0 impostor refl,
                (
                  at_0,
                  all_from four honesty (after 8) 0 (parts (prevoted 1)) (λ _ _. inl (inl refl), tt),
                  (
                    at_0,
                    all_from four honesty (after 9) 0 (parts (prevoted 3)) (λ _ e. liar e, tt),
                    (
                      at_0,
                      tt,
                      (
                        at_1,
                        all_from four honesty (after 11) 1 (parts (prevoted 0)) (λ _ _. inl (inr (inr (inl refl))), tt),
                        (
                          at_1,
                          all_from four honesty (after 12) 1 (parts (prevoted 3)) (λ _ e. liar e, tt),
                          (
                            at_1,
                            tt,
                            (
                              at_1,
                              tt,
                              (
                                at_0,
                                all_from four honesty (after 15) 0 (parts (precommitted 1)) (λ _ _. inl (inr (inl refl)), tt),
                                (
                                  at_0,
                                  all_from four honesty (after 16) 0 (parts (precommitted 3)) (λ _ e. liar e, tt),
                                  (
                                    at_0,
                                    tt,
                                    (
                                      at_1,
                                      tt,
                                      (
                                        at_0,
                                        all_from four honesty (after 19) 0 (parts asked) (λ _ _. inl (inl refl), tt),
                                        (
                                          at_1,
                                          all_from four honesty (after 20) 1 (parts (OfBundle answered)) (λ _ _. inl (inl refl), (λ _ _. inl (inr (inr (inr (inr (inl refl))))), (λ _ _. inl (inr (inr (inr (inl refl)))), (λ _ e. liar e, (λ _ _. inl refl, tt))))),
                                          tt,
                                        ),
                                      ),
                                    ),
                                  ),
                                ),
                              ),
                            ),
                          ),
                        ),
                      ),
                    ),
                  ),
                ),
              ),
            ),
          ),
        ),
      ),
    ),
  ),
)

-- ---- one value occurs

few_lie : FewLie four.powers honesty.liars
few_lie = omega arith

value_of_event : (v : Value) (e : Event) → e ∈ meeting → EventHas v e → greeting ≡ v
unfolding is_quorum is_weak proposer sha256 digest_bytes hash_after compress rounds schedule first_words hmac is_right number_bytes ranged limited repeat whole tx_fields_spelling tags_spelling tx_spelling value_spelling data_at op_after op_at tx_fields_at tx_kind_at tx_body_at tag_count_at tags_at tx_at value_at proposal_spelling vote_spelling ask_spelling precommit_spelling precommits_spelling bundle_head_spelling bundle_spelling valid_round_at proposal_at content_after content_at vote_at ask_at precommit_at precommits_at bundle_at body_after body_at message_at content_of message_of message_spelling frame_spelling id fifo valid right tx_is_right genuine below tagged pick bundle_senders certified restart
value_of_event v e i = each_of (λ (x : Event). EventHas v x → greeting ≡ v) meeting (
  λ k. absurd k,
  (
    λ k. absurd k,
    (
      λ k. absurd k,
      (
        λ k. absurd k,
        (
          λ k. absurd k,
          (
            λ k. k,
            (
              λ k. absurd k,
              (
                λ k. absurd k,
                (
                  λ k. absurd k,
                  (
                    λ k. absurd k,
                    (
                      λ k. absurd k,
                      (
                        λ k. absurd k,
                        (
                          λ k. absurd k,
                          (
                            λ k. absurd k,
                            (
                              λ k. absurd k,
                              (
                                λ k. absurd k,
                                (
                                  λ k. absurd k,
                                  (
                                    λ k. absurd k,
                                    (λ k. absurd k, (λ k. absurd k, (λ k. k, tt))),
                                  ),
                                ),
                              ),
                            ),
                          ),
                        ),
                      ),
                    ),
                  ),
                ),
              ),
            ),
          ),
        ),
      ),
    ),
  ),
) e i

value_of_record : (v : Value) (p : ℕ) → IsCorrect four honesty p → (r : Record) → r ∈ ((run four (beginning four) meeting).nodes p).journal → RecordHas v r → greeting ≡ v
unfolding is_quorum is_weak proposer sha256 digest_bytes hash_after compress rounds schedule first_words hmac is_right number_bytes ranged limited repeat whole tx_fields_spelling tags_spelling tx_spelling value_spelling data_at op_after op_at tx_fields_at tx_kind_at tx_body_at tag_count_at tags_at tx_at value_at proposal_spelling vote_spelling ask_spelling precommit_spelling precommits_spelling bundle_head_spelling bundle_spelling valid_round_at proposal_at content_after content_at vote_at ask_at precommit_at precommits_at bundle_at body_after body_at message_at content_of message_of message_spelling frame_spelling id fifo valid right tx_is_right genuine below tagged pick bundle_senders certified restart
value_of_record v zero ok r i = each_of (λ (x : Record). RecordHas v x → greeting ≡ v) journal_of_0 (λ k. k, (λ k. k, (λ k. absurd k, (λ k. k, tt)))) r (subst (λ l. r ∈ l) met.saved_by_0 i)
value_of_record v (suc zero) ok r i = each_of (λ (x : Record). RecordHas v x → greeting ≡ v) journal_of_1 (λ k. k, (λ k. k, (λ k. absurd k, tt))) r (subst (λ l. r ∈ l) met.saved_by_1 i)
value_of_record v (suc (suc zero)) ok r i = absurd i
value_of_record v (suc (suc (suc zero))) ok r i = liar ok.1
value_of_record v (suc (suc (suc (suc n)))) ok r i = absurd (omega (arith, ok.0))

the_value : (v : Value) → Occurs four honesty meeting v → greeting ≡ v
the_value v (inl k) = value_of_event v k.0 k.1 k.2
the_value v (inr k) = value_of_record v k.0 k.1 k.2.0 k.2.1 k.2.2

distinct : Distinct four honesty meeting
distinct v u a b e = sym (the_value v a) ∙ the_value u b

pub premises_met_law : PremisesMetLaw
premises_met_law = (few_lie, unforged, distinct, met)
