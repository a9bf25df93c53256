-- What was taken of a ring from position 0 on begins the delivered list.
use Rattle.std.proofs.Common.{◌≡◌, inl, inr, List, [], ◌∷◌, ◌++◌, refl, sym, ap, ap₂, ◌∙◌, subst, append_assoc}
use Rattle.std.proofs.lemmas.List.{map-append}
use Rattle.protocol.specs.Values.{Item}
use Rattle.protocol.specs.Messages.{◌∈◌, Bundle}
use Rattle.protocol.specs.Premises.{Begins}
use Rattle.protocol.specs.Laws.{Comparable}
use Rattle.node_core.specs.Core.{delivered_in}
use Rattle.subscriber_ring.specs.declared.delivered.Delivered.{Delivered}
use Rattle.subscriber_ring.specs.Order.{items_of}
use Rattle.subscriber_ring.specs.Rule.{BeginsWith}
use Rattle.locked_node.specs.declared.feeding.Fed.{Fed}
use Rattle.locked_node.specs.Feeding.{left_at, IsFed, AreFed}
use Rattle.locked_node.specs.Subscribers.{SubscribersLaw}
use Rattle.locked_node.proofs.Feeds.{none_before}

fed_in : (d : List Bundle) (fs : List Fed) (f : Fed) → AreFed d fs → f ∈ fs → IsFed d f
fed_in d [] f a i = absurd i
fed_in d (g ∷ fs) f a (inl e) = subst (IsFed d) (sym e) a.0
fed_in d (g ∷ fs) f a (inr i) = fed_in d fs f a.1 i

begins_delivered : (d : List Bundle) (f : Fed) (taken : List Delivered) → IsFed d f → f.feeder.first ≡ 0 → BeginsWith f.feeder.offered taken → Begins (items_of taken) (delivered_in d)
begins_delivered d f taken s first b =
    let left = left_at d f.place in
    let queued = items_of b.0 in (
      queued ++ left,
      sym (append_assoc (items_of taken) queued left)
          ∙ ap (λ l. l ++ left) (sym (map-append (λ (e : Delivered). e.item) taken b.0) ∙ ap items_of (sym b.1))
          ∙ ap (λ l. l ++ (items_of f.feeder.offered ++ left)) (sym (none_before s.before f.feeder.first s.start first))
          ∙ sym s.whole,
    )

begins_both : (a b r s : List Item) → a ++ r ≡ b ++ s → Comparable a b
begins_both [] b r s e = inl (b, refl)
begins_both (x ∷ a) [] r s e = inr (x ∷ a, refl)
begins_both (x ∷ a) (y ∷ b) r s e =
    let h : x ≡ y = cc in
    let t : a ++ r ≡ b ++ s = cc in
    elim (begins_both a b r s t) [ inl k ↦ inl (k.0, ap₂ (λ z l. z ∷ l) h k.1) | inr k ↦ inr (k.0, ap₂ (λ z l. z ∷ l) (sym h) k.1) ]

beginnings : (a b x y : List Item) → Begins a x → Begins b y → Comparable x y → Comparable a b
beginnings a b x y m n (inl k) = begins_both a b (m.0 ++ k.0) n.0 (sym (append_assoc a m.0 k.0) ∙ ap (λ l. l ++ k.0) m.1 ∙ k.1 ∙ sym n.1)
beginnings a b x y m n (inr k) = begins_both a b m.0 (n.0 ++ k.0) (m.1 ∙ sym (sym (append_assoc b n.0 k.0) ∙ ap (λ l. l ++ k.0) n.1 ∙ k.1))

pub subscribers : SubscribersLaw
subscribers l m h k taken other t u =
    let one = begins_delivered l.core.decisions t.ring taken (fed_in _ _ _ h.fed t.there) t.first t.begins in
    let two = begins_delivered m.core.decisions u.ring other (fed_in _ _ _ k.fed u.there) u.first u.begins in
    (one, λ lists. beginnings _ _ _ _ one two lists)
