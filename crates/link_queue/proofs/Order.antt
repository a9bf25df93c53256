-- A frame that is handed out keeps the order.
use Rattle.std.proofs.Common.{◌≡◌, Bool, List, [], ◌∷◌, ◌++◌, length, sym, ap, ◌∙◌, append_assoc, arith}
use Rattle.link_queue.specs.Line.{Frame, line, IsInOrder}

pub handed : (a t q rest u : List Frame) (x : Frame) (closed : Bool) → q ≡ x ∷ rest → u ≡ t ++ x ∷ [] → IsInOrder (line a t q closed) → IsInOrder (line a u rest closed)
handed a t q rest u x closed e more h = record {
  whole = h.whole ∙ ap (λ l. t ++ l) e ∙ sym (append_assoc t (x ∷ []) rest) ∙ ap (λ l. l ++ rest) (sym more);
  room = omega (arith, h.room, ap (λ l. length l) e);
}
