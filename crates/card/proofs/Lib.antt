mod Feeding
mod FramesRead
mod PaperLaw
mod StretchLaw
mod WholeFrames
mod CardCases
mod CardPulsed
