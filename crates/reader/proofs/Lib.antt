pub mod LabelReading
