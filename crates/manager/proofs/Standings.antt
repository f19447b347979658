-- What a standing that passes one test says of the others. Assumes nothing.
use Rattle.std.proofs.Common.{◌≡◌, true, false, refl}
use Rattle.seat.specs.declared.Standing.{Standing}
use Rattle.seat.specs.declared.Standing.TheVariants.{Free, Waiting, Ready, Running}
use Rattle.manager.specs.Sound.{is_free, is_waiting, is_ready}

-- only one standing is free, and only one is ready
pub only_free : (st : Standing) → is_free st ≡ true → st ≡ Free
only_free Free h = refl
only_free Waiting h = absurd cc
only_free Ready h = absurd cc
only_free (Running p) h = absurd cc

pub only_ready : (st : Standing) → is_ready st ≡ true → st ≡ Ready
only_ready Free h = absurd cc
only_ready Waiting h = absurd cc
only_ready Ready h = refl
only_ready (Running p) h = absurd cc

-- a free seat is not ready
pub free_not_ready : (st : Standing) → is_free st ≡ true → is_ready st ≡ false
free_not_ready Free h = refl
free_not_ready Waiting h = refl
free_not_ready Ready h = absurd cc
free_not_ready (Running p) h = refl

-- a waiting task is not ready, and its seat not free
pub waiting_not_ready : (st : Standing) → is_waiting st ≡ true → is_ready st ≡ false
waiting_not_ready Free h = refl
waiting_not_ready Waiting h = refl
waiting_not_ready Ready h = absurd cc
waiting_not_ready (Running p) h = refl

pub waiting_not_free : (st : Standing) → is_waiting st ≡ true → is_free st ≡ false
waiting_not_free Free h = absurd cc
waiting_not_free Waiting h = refl
waiting_not_free Ready h = refl
waiting_not_free (Running p) h = refl
