-- What fits one turn.
use Rattle.std.proofs.Common.{◌≡◌, ℕ, ◌+◌, ◌<◌, ◌≤◌, inl, inr, List, length, take, sym, ap, arith}
use Rattle.std.proofs.lemmas.List.{length-take, length-take-le}
use Rattle.edge_frames.specs.Passing.{SentFrame, bytes_of}
use Rattle.edge_frames.specs.Turns.{FitsTurn, start, rest, IsTurn}

pub none_fits : (fs : List SentFrame) → FitsTurn (take 0 fs)
none_fits fs = record { frames = omega (arith, length-take 0 fs); bytes = inl (omega (arith, length-take 0 fs)) }

pub one_fits : (fs : List SentFrame) → FitsTurn (take 1 fs)
one_fits fs = record { frames = omega (arith, length-take 1 fs); bytes = inl (omega (arith, length-take 1 fs)) }

pub more_fit : (fs : List SentFrame) (n : ℕ) → n < 256 → bytes_of (take (n + 1) fs) ≤ 524288 → FitsTurn (take (n + 1) fs)
more_fit fs n few short = record { frames = omega (arith, length-take (n + 1) fs); bytes = inr short }

pub too_many : (fs : List SentFrame) (n : ℕ) → n < length fs → 256 ≤ n → ¬ FitsTurn (take (n + 1) fs)
too_many fs n within many is = omega (arith, length-take-le (n + 1) fs (omega arith), is.frames)

pub too_long : (fs : List SentFrame) (n : ℕ) → n < length fs → 1 ≤ n → 524288 < bytes_of (take (n + 1) fs) → ¬ FitsTurn (take (n + 1) fs)
too_long fs n within one long is = elim is.bytes [
  | inl few ↦ omega (arith, length-take-le (n + 1) fs (omega arith), few)
  | inr short ↦ omega (arith, short)
]

pub turn_is : (fs : List SentFrame) (place n behind : ℕ) → n ≤ length (rest place fs) → FitsTurn (take n (rest place fs)) → (n < length (rest place fs) → ¬ FitsTurn (take (n + 1) (rest place fs)))
    → behind ≡ start (start place (length fs) + n) (length fs) → IsTurn fs place (take n (rest place fs)) behind
turn_is fs place n behind within fits more next =
    let len : length (take n (rest place fs)) ≡ n = length-take-le n (rest place fs) within in
    record {
      begins = ap (λ (k : ℕ). take k (rest place fs)) (sym len);
      fits = fits;
      longest = rw len more;
      next = rw len next;
    }
