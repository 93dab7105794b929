-- FactLaws proves what specs/Facts.antt states of an accepted frame, by TrackFacts and LabelFacts; UnlabelledLaws, that with equal labels everywhere the frame is the one without them, as specs/Unlabelled.antt states it;
-- PlainLaws, that the plain words of specs/Plain.antt are the definition's.
pub mod PlainLaws
pub mod TrackFacts
pub mod LabelFacts
pub mod FactLaws
pub mod UnlabelledLaws
